-- What only private functions and proofs cite beside `Approximants`. Assumes nothing: these are
-- definitions.
use Rattle.std.specs.Prelude.{ℕ}
use Rattle.base_fixpoint.specs.Pairs.{Pairs, In, Subset}
use Rattle.base_fixpoint.specs.Approximants.{Operator}

-- the condition asks no more where the set is larger
abbrev pub Monotone : Operator → Type 0
Monotone F = (u v : Pairs) → Subset (In u) (In v) → Subset (In (F u)) (In (F v))

-- a set of which each pair meets the condition with any set that holds them all: decidable or not,
-- it keeps itself through a round
abbrev pub PostFixed : Operator → (ℕ → ℕ → Type 0) → Type 0
PostFixed F U = (v : Pairs) → Subset U (In v) → Subset U (In (F v))
