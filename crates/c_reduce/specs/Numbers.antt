-- The figures of reduce in the answer slice of the C ABI. Assumes nothing: this is a definition.
use Rattle.std.specs.Prelude.{ℕ, List, [], ◌∷◌}
use Rattle.reduce_entry.specs.declared.Reduction.{Reduction}
use Rattle.c_answer.specs.Numbers.{numbers_of}

-- "7: + states, labels, hops, initial"
abbrev pub reduction_numbers : Reduction → List ℕ
reduction_numbers r = numbers_of r.answer (r.shape.states ∷ r.shape.labels ∷ r.hops ∷ r.shape.initial ∷ [])
