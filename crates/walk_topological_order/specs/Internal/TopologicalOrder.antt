-- Reverse topological order of the silent (tau) hops: their places, in an order in which each
-- stands behind all that leave its end. Assumes nothing: these are definitions.
use Rattle.std.specs.Prelude.{ℕ, ◌<◌, ◌≤◌, ◌≡◌, List, length, get_or}
use Rattle.graph.specs.Hops.{count, from, label, to}

-- the first n numbers are the places of the silent hops, and all of them; the silent hops that
-- leave a hop's end stand before that hop
pub record TopologicalOrder (hs sorted : List ℕ) (n : ℕ) : Type 0 where
  pub capacity : n ≤ length sorted
  pub within : (k : ℕ) → k < n → get_or sorted k 0 < count hs
  pub silent : (k : ℕ) → k < n → label hs (get_or sorted k 0) ≡ 0
  pub every : (i : ℕ) → i < count hs → label hs i ≡ 0 → (k : ℕ) × (k < n) × (get_or sorted k 0 ≡ i)
  pub order : (j k : ℕ) → j < n → k < n → to hs (get_or sorted j 0) ≡ from hs (get_or sorted k 0) → k < j
