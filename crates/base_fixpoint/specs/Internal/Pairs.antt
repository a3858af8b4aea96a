-- What only private functions and proofs cite beside `Pairs`. Assumes nothing: this is a
-- definition.
use Rattle.std.specs.Prelude.{ℕ, ◌<◌, ◌≡◌, true}
use Rattle.base_fixpoint.specs.Pairs.{Pairs}

-- a set that has at most n pairs: each stands at a place below n
pub record AtMostPairs (b : Pairs) (n : ℕ) : Type 0 where
  pub first : ℕ → ℕ
  pub second : ℕ → ℕ
  pub place : (s t : ℕ) → b s t ≡ true → (i : ℕ) × (i < n) × (first i ≡ s) × (second i ≡ t)
