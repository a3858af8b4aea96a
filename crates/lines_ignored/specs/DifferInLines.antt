-- Hop lists that differ in their source lines alone: "Order and equality go by the first three"
-- numbers of a hop. Assumes nothing: this is a definition.
use Rattle.std.specs.Prelude.{ℕ, ◌≡◌, List, length}
use Rattle.graph.specs.Hops.{hop_at, Alike}

-- lists as long as one another, in which each place has hops of one from, label and to
pub record DifferInLines (hs hs' : List ℕ) : Type 0 where
  pub as_long : length hs ≡ length hs'
  pub alike : (i : ℕ) → Alike (hop_at hs i) (hop_at hs' i)
