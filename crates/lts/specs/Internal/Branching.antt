-- Branching bisimulation in the theory's form: relations on any numbers, between any two hop
-- relations (labelled transition systems). Document 01's Definition 2.4 is
-- `audit_entry: BranchingBisimulation`, of two graphs and pairs of their states;
-- `audit_entry: branching_iff` says that it is this one for the graphs' hops. Assumes nothing:
-- these are definitions.
use Rattle.std.specs.Prelude.{ℕ, ◌≡◌, ◌⊎◌}
use Rattle.lts.specs.Star.{Star}
use Rattle.lts.specs.Internal.Sense.{Silent}

-- n answers a hop of s labelled a to t: by none, if it is silent, or by silent hops to a state that
-- R relates to s, and one labelled a
abbrev pub MatchedBy : (ℕ → ℕ → ℕ → Type 0) → (ℕ → ℕ → Type 0) → ℕ → ℕ → ℕ → ℕ → Type 0
MatchedBy Hop R s n a t = ((a ≡ 0) × R t n) ⊎ ((u : ℕ) × (q : ℕ) × Star (Silent Hop) n u × R s u × Hop u a q × R t q)

-- one half of the definition
abbrev pub Simulates : (Hop1 Hop2 : ℕ → ℕ → ℕ → Type 0) (R : ℕ → ℕ → Type 0) → Type 0
Simulates Hop1 Hop2 R = (s n : ℕ) → R s n → (a t : ℕ) → Hop1 s a t → MatchedBy Hop2 R s n a t

pub record Branching (Hop1 Hop2 : ℕ → ℕ → ℕ → Type 0) (R : ℕ → ℕ → Type 0) : Type 0 where
  pub there : Simulates Hop1 Hop2 R
  pub again : Simulates Hop2 Hop1 (λ n s. R s n)
