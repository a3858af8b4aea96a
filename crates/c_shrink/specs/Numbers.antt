-- The figures of shrink in the answer slice of the C ABI. Assumes nothing: this is a definition.
use Rattle.std.specs.Prelude.{ℕ, List, [], ◌∷◌}
use Rattle.shrink_entry.specs.declared.Shrinking.{Shrinking}
use Rattle.c_answer.specs.Numbers.{numbers_of}

-- "8: states, labels, hops, initial, reductions"
abbrev pub shrinking_numbers : Shrinking → List ℕ
shrinking_numbers r = numbers_of r.answer (r.shape.states ∷ r.shape.labels ∷ r.hops ∷ r.shape.initial ∷ r.reductions ∷ [])
