-- What only private functions and proofs cite beside `Closes`. Assumes nothing: this is a
-- definition.
use Rattle.std.specs.Prelude.{ℕ}
use Rattle.lts.specs.Closes.{ConfluentIn, Sense}

-- U holds every set of the sense
abbrev pub Greatest : Sense → (ℕ → ℕ → ℕ → Type 0) → (ℕ → ℕ → Type 0) → Type 1
Greatest sense Hop U = (W : ℕ → ℕ → Type 0) → ConfluentIn sense Hop W → (s t : ℕ) → W s t → U s t
