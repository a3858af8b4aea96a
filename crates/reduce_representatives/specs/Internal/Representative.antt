-- What only private functions and proofs cite beside `Representative`. Assumes nothing: this is a
-- definition.
use Rattle.std.specs.Prelude.{ℕ, ◌<◌, ◌≤◌, List}
use Rattle.graph.specs.declared.Shape.{Shape}
use Rattle.walk_silent.specs.Silent.{HopOf}
use Rattle.base_fixpoint.specs.Pairs.{Pairs, In}

-- walks along the hops of u terminate: u is a set of silent hops of the graph, and a rank of at
-- most the state count falls along each of them, so that they make no ring. This is all that the
-- map and the short graph need to be defined
pub record Terminating (sh : Shape) (hs : List ℕ) (u : Pairs) : Type 0 where
  pub silent : (s t : ℕ) → In u s t → HopOf hs s 0 t
  pub rank : ℕ → ℕ
  pub falls : (s t : ℕ) → In u s t → rank t < rank s
  pub bound : (s : ℕ) → rank s ≤ sh.states
