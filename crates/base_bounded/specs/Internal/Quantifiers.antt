-- What only private functions and proofs cite beside `Quantifiers`. Assumes nothing: this is a
-- definition.
use Rattle.std.specs.Prelude.{ℕ, ◌<◌, ◌≡◌, Bool, true, false}

-- i is the first number below n that fails p
pub record FirstFailing (n : ℕ) (p : ℕ → Bool) (i : ℕ) : Type 0 where
  pub within : i < n
  pub fails : p i ≡ false
  pub passed : (j : ℕ) → j < i → p j ≡ true
