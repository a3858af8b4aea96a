-- Sets of pairs of states. Assumes nothing: these are definitions.
use Rattle.std.specs.Prelude.{ℕ, ◌≡◌, Bool, true}

-- a set of pairs of states
abbrev pub Pairs : Type 0
Pairs = ℕ → ℕ → Bool

-- the same set, where any set of pairs is meant, decidable or not
abbrev pub In : Pairs → ℕ → ℕ → Type 0
In u s t = u s t ≡ true

-- each pair of the one is a pair of the other
abbrev pub Subset : (ℕ → ℕ → Type 0) → (ℕ → ℕ → Type 0) → Type 0
Subset U W = (s t : ℕ) → U s t → W s t
