-- What writing a file answers and writes. Assumes nothing: these are definitions.
use Rattle.std.specs.Prelude.{ℕ, ◌-◌, cond, List, length, eqb, ltb, Result, Ok, Err}
use Rattle.graph.specs.Answers.{accepted, refused, and_then, capacity_answer, refusal_answer}
use Rattle.graph_check.specs.Check.{check_of}
use Rattle.graph.specs.declared.Shape.{Shape}
use Rattle.graph.specs.declared.Answer.{Answer}
use Rattle.graph.specs.declared.Refusal.{Refusal}
use Rattle.file_names.specs.Block.{name_at, first_bad}
use Rattle.base_outputs.specs.Output.{written}
use Rattle.file_encode.specs.Encode.{encode}
use Rattle.file_write.specs.declared.Written.{Written}

-- row 14, of a block of n names: "block ending early: its length; bytes left: the first of them;
-- these two speak before any fault in a name"
unfoldable pub block_answer : List ℕ → ℕ → Answer
block_answer ns n =
    cond (ltb (length ns) (name_at ns n)) (refused 14 (length ns))
    (cond (ltb (name_at ns n) (length ns)) (refused 14 (name_at ns n))
    (cond (ltb (first_bad ns n) n) (refused 14 (name_at ns (first_bad ns n)))
    accepted))

-- "a name block (empty: no names)"
unfoldable pub names_given : Shape → List ℕ → Answer
names_given sh ns = cond (eqb (length ns) 0) accepted (block_answer ns (sh.labels - 1))

-- "writing checks 1 to 4, 14, 6": the answer for the graph and the block as they are given, and
-- then for the capacity of the output
unfoldable pub given_answer : Shape → List ℕ → List ℕ → Answer
given_answer sh hs ns = and_then (check_of sh hs) (names_given sh ns)

unfoldable pub write_answer : Shape → List ℕ → List ℕ → ℕ → Answer
write_answer sh hs ns capacity = and_then (given_answer sh hs ns) (capacity_answer (length (encode sh hs ns)) capacity)

-- "with any number but 0 every other figure in the answer is 0"
abbrev pub refused_written : Answer → Written
refused_written a = record { answer = a; length = 0 }

-- the figures of what `write` returns: how many bytes it wrote, or a refusal
abbrev pub written_record : Result ℕ Refusal → Written
written_record (Ok n) = record { answer = accepted; length = n }
written_record (Err r) = refused_written (refusal_answer r)

unfoldable pub write_of : Shape → List ℕ → List ℕ → ℕ → Written
write_of sh hs ns capacity =
    cond (eqb (write_answer sh hs ns capacity).number 0) (record { answer = accepted; length = length (encode sh hs ns) })
    (refused_written (write_answer sh hs ns capacity))

-- "A refusal leaves all lent elements untouched"; "Acceptance writes the named elements and none
-- past them"
unfoldable pub write_bytes : Shape → List ℕ → List ℕ → List ℕ → List ℕ
write_bytes sh hs ns old = written (write_answer sh hs ns (length old)).number (encode sh hs ns) old
