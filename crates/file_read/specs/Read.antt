-- What reading a file answers and writes. Assumes nothing: these are definitions.
use Rattle.std.specs.Prelude.{ℕ, cond, List, length, eqb, Result, Ok, Err}
use Rattle.graph.specs.Hops.{number_place}
use Rattle.graph.specs.Answers.{accepted, and_then, capacity_answer, refusal_answer}
use Rattle.graph_check.specs.Check.{check_of}
use Rattle.graph.specs.declared.Answer.{Answer}
use Rattle.graph.specs.declared.Refusal.{Refusal}
use Rattle.file_fields.specs.Format.{hops_in, shape_in, hop_list_in, block_place, block_length}
use Rattle.file_format.specs.Rows.{format_answer}
use Rattle.base_outputs.specs.Output.{written}
use Rattle.file_read.specs.declared.Contents.{Contents}
use Rattle.file_read.specs.declared.Decoded.{Decoded}

-- "then 1 to 4, then 6": the output takes four numbers a hop
unfoldable pub read_answer : List ℕ → ℕ → Answer
read_answer b capacity = and_then (format_answer b) (and_then (check_of (shape_in b) (hop_list_in b)) (capacity_answer (number_place (hops_in b)) capacity))

-- "with any number but 0 every other figure in the answer is 0"
abbrev pub refused_contents : Answer → Contents
refused_contents a = record { answer = a; shape = record { states = 0; labels = 0; initial = 0 }; hops = 0; names_place = 0; names_len = 0 }

abbrev pub contents_of : List ℕ → Contents
contents_of b = record { answer = accepted; shape = shape_in b; hops = hops_in b; names_place = block_place b; names_len = block_length b }

-- the figures of what `read` returns: what the file holds, or a refusal
abbrev pub contents_record : Result Decoded Refusal → Contents
contents_record (Ok d) = record { answer = accepted; shape = d.shape; hops = d.hops; names_place = d.names_place; names_len = d.names_len }
contents_record (Err r) = refused_contents (refusal_answer r)

unfoldable pub read_of : List ℕ → ℕ → Contents
read_of b capacity = cond (eqb (read_answer b capacity).number 0) (contents_of b) (refused_contents (read_answer b capacity))

-- "A refusal leaves all lent elements untouched"; "Acceptance writes the named elements and none
-- past them"
unfoldable pub read_hops : List ℕ → List ℕ → List ℕ
read_hops b old = written (read_answer b (length old)).number (hop_list_in b) old
