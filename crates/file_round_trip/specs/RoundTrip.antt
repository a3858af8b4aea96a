-- The two round trips of document 01. Assumes nothing: these are definitions.
use Rattle.std.specs.Prelude.{ℕ, ◌+◌, ◌-◌, cond, List, length, eqb, ◌≡◌}
use Rattle.graph.specs.Hops.{count}
use Rattle.graph.specs.Answers.{most_numbers, accepted, and_then, capacity_answer}
use Rattle.graph.specs.declared.Shape.{Shape}
use Rattle.graph.specs.declared.Answer.{Answer}
use Rattle.base_outputs.specs.Output.{written}
use Rattle.file_read.specs.Read.{read_answer, refused_contents, contents_of}
use Rattle.file_read.specs.declared.Contents.{Contents}
use Rattle.file_encode.specs.Encode.{lines_bytes, encode}
use Rattle.file_write.specs.Write.{given_answer, refused_written}
use Rattle.file_write.specs.declared.Written.{Written}
use Rattle.file_fields.specs.Format.{hop_list_in, block_in}

-- "A file read and written again has the same bytes": it is read into an output that holds the hops
-- of any graph
unfoldable pub copy_answer : List ℕ → ℕ → Answer
copy_answer b capacity = and_then (read_answer b most_numbers) (capacity_answer (length b) capacity)

unfoldable pub copy_of : List ℕ → ℕ → Written
copy_of b capacity = cond (eqb (copy_answer b capacity).number 0) (record { answer = accepted; length = length b }) (refused_written (copy_answer b capacity))

unfoldable pub copy_bytes : List ℕ → List ℕ → List ℕ
copy_bytes b old = written (copy_answer b (length old)).number b old

-- "a graph written and read again is the same graph with the same block": the same lines too; the
-- block stands before the lines
unfoldable pub block_start : Shape → List ℕ → List ℕ → ℕ
block_start sh hs ns = cond (eqb (length ns) 0) 0 (length (encode sh hs ns) - (length ns + length (lines_bytes hs)))

abbrev pub same_graph : Shape → List ℕ → List ℕ → Contents
same_graph sh hs ns = record { answer = accepted; shape = sh; hops = count hs; names_place = block_start sh hs ns; names_len = length ns }

unfoldable pub back_answer : Shape → List ℕ → List ℕ → ℕ → ℕ → Answer
back_answer sh hs ns capacity hopCapacity = and_then (given_answer sh hs ns) (and_then (capacity_answer (length hs) hopCapacity) (capacity_answer (length (encode sh hs ns)) capacity))

unfoldable pub back_of : Shape → List ℕ → List ℕ → ℕ → ℕ → Contents
back_of sh hs ns capacity hopCapacity = cond (eqb (back_answer sh hs ns capacity hopCapacity).number 0) (same_graph sh hs ns) (refused_contents (back_answer sh hs ns capacity hopCapacity))

unfoldable pub back_bytes : Shape → List ℕ → List ℕ → List ℕ → ℕ → List ℕ
back_bytes sh hs ns old hopCapacity = written (back_answer sh hs ns (length old) hopCapacity).number (encode sh hs ns) old

unfoldable pub back_hops : Shape → List ℕ → List ℕ → ℕ → List ℕ → List ℕ
back_hops sh hs ns capacity old = written (back_answer sh hs ns capacity (length old)).number hs old

-- what is read of a file that was written
pub record ReadBack (sh : Shape) (hs ns b : List ℕ) (capacity : ℕ) : Type 0 where
  pub accepts : read_answer b capacity ≡ accepted
  pub same_contents : contents_of b ≡ same_graph sh hs ns
  pub same_hops : hop_list_in b ≡ hs
  pub same_block : block_in b ≡ ns
