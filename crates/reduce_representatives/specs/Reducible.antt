-- What `reduce` works on: a graph that rows 1 to 5 let pass. Assumes nothing: this is a definition.
use Rattle.std.specs.Prelude.{ℕ, ◌≡◌, List}
use Rattle.graph_check.specs.Check.{Admitted}
use Rattle.graph.specs.declared.Shape.{Shape}
use Rattle.walk_silent.specs.Silent.{ring_answer}

-- a graph that rows 1 to 5 let pass
pub record Reducible (sh : Shape) (hs : List ℕ) : Type 0 where
  pub admitted : Admitted sh hs
  pub free : (ring_answer sh hs).number ≡ 0
