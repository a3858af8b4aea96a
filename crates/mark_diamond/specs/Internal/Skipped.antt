-- Where a pass over a state's hops, labels ascending, has come to. Assumes nothing: these are
-- definitions.
use Rattle.std.specs.Prelude.{ℕ, ◌<◌, ◌≤◌, List}
use Rattle.graph.specs.Hops.{label}

-- of the places from `at` on, `r` is the first before `past` whose label is not below a, or `past`
pub record Skipped (hs : List ℕ) (at past a r : ℕ) : Type 0 where
  pub after : at ≤ r
  pub before : r ≤ past
  pub passed : (k : ℕ) → at ≤ k → k < r → label hs k < a
  pub stopped : r < past → a ≤ label hs r
