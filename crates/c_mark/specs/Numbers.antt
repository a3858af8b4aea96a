-- The figures of the round question and of the faster marking in the answer slice of the C ABI.
-- Assumes nothing: these are definitions.
use Rattle.std.specs.Prelude.{ℕ, List, [], ◌∷◌}
use Rattle.mark_entry_round.specs.declared.RoundAnswer.{RoundAnswer}
use Rattle.mark_entry_fast.specs.declared.Counted.{Counted}
use Rattle.c_answer.specs.Numbers.{numbers_of}

-- "4: + 1 or 0"
abbrev pub round_numbers : RoundAnswer → List ℕ
round_numbers r = numbers_of r.answer (r.survives ∷ [])

-- "4: tests"
abbrev pub counted_numbers : Counted → List ℕ
counted_numbers c = numbers_of c.answer (c.tests ∷ [])
