-- The entry `mark_fast`: "Its marks equal the first R1 marking's on all inputs, refusals too; it
-- also returns the number of tests". The answer and the output are those of `mark` in sense 1, and
-- with a refusal the number is 0. Assumes nothing: these are definitions.
use Rattle.std.specs.Prelude.{ℕ, cond, List, eqb, Result, Ok, Err}
use Rattle.graph.specs.Answers.{accepted, refusal_answer}
use Rattle.graph.specs.declared.Refusal.{Refusal}
use Rattle.graph.specs.declared.Shape.{Shape}
use Rattle.mark_entry.specs.Mark.{mark_answer}
use Rattle.mark_worklist.specs.Tests.{tests_of}
use Rattle.mark_entry_fast.specs.declared.Counted.{Counted}

-- the figures of what `mark_fast` returns
abbrev pub counted_of : Result ℕ Refusal → Counted
counted_of (Ok tests) = record { answer = accepted; tests = tests }
counted_of (Err r) = record { answer = refusal_answer r; tests = 0 }

unfoldable pub mark_fast_of : Shape → List ℕ → List ℕ → Counted
mark_fast_of sh hs out = record { answer = mark_answer sh hs 1 out; tests = cond (eqb (mark_answer sh hs 1 out).number 0) (tests_of hs) 0 }
