-- The figures of find in the answer slice of the C ABI. Assumes nothing: this is a definition.
use Rattle.std.specs.Prelude.{ℕ, List, [], ◌∷◌}
use Rattle.graph_find.specs.declared.Finding.{Finding}
use Rattle.c_answer.specs.Numbers.{numbers_of}

-- "5: found 1 or 0, place"
abbrev pub finding_numbers : Finding → List ℕ
finding_numbers f = numbers_of f.answer (f.found ∷ f.place ∷ [])
