-- A state's hops from a label on, by places. Assumes nothing: these are definitions.
use Rattle.std.specs.Prelude.{ℕ, ◌<◌, ◌≤◌, ◌≡◌, List}
use Rattle.graph.specs.Hops.{count, from, label}

-- the hops of s that are labelled a or more are those from place `at` on and before `past`
pub record Row (hs : List ℕ) (s a at past : ℕ) : Type 0 where
  pub within : past ≤ count hs
  pub own : (k : ℕ) → at ≤ k → k < past → from hs k ≡ s
  pub low : (k : ℕ) → at ≤ k → k < past → a ≤ label hs k
  pub rest : (k : ℕ) → k < count hs → from hs k ≡ s → a ≤ label hs k → (at ≤ k) × (k < past)
