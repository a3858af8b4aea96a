-- The figures of hops of a state in the answer slice of the C ABI. Assumes nothing: this is a
-- definition.
use Rattle.std.specs.Prelude.{ℕ, List, [], ◌∷◌}
use Rattle.graph_hops_of.specs.declared.Span.{Span}

-- "2: start and length in numbers of that table"
abbrev pub span_numbers : Span → List ℕ
span_numbers p = p.start ∷ p.length ∷ []
