-- What only private functions and proofs cite beside `Reduce`. Assumes nothing: this is a
-- definition.
use Rattle.std.specs.Prelude.{ℕ, List}
use Rattle.graph.specs.declared.Shape.{Shape}
use Rattle.mark_senses.specs.Senses.{marked_by}
use Rattle.reduce_representatives.specs.Representative.{map_of}

-- "The map gives each old state the new number of its representative", along the marked hops:
-- map(s), and the map as a list
abbrev pub reduced_state : Shape → List ℕ → ℕ → ℕ → ℕ
reduced_state sh hs k = map_of sh hs (marked_by k sh hs)
