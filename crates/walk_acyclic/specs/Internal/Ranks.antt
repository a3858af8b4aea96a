-- Ranks: a ranked state has its flag true; all its silent (tau) hops lead to states ranked before
-- it, so that it is on no ring (silent cycle). Assumes nothing: these are definitions.
use Rattle.std.specs.Prelude.{ℕ, ◌<◌, ◌≡◌, Bool, true, not, ◌||◌, List}
use Rattle.base_bounded.specs.Quantifiers.{all}
use Rattle.graph.specs.Hops.{count, to, labelled}
use Rattle.walk_reach.specs.Internal.Frontier.{visited}
use Rattle.walk_silent.specs.Silent.{OnRing}

-- every silent hop of v leads to a visited state, one whose flag is true
unfoldable pub ends_visited : List ℕ → List Bool → ℕ → Bool
ends_visited hs ranked v = all (count hs) (λ (i : ℕ). not (labelled hs v 0 i) || visited ranked (to hs i))

-- no visited one of n states is on a ring
abbrev pub OffRings : List ℕ → ℕ → List Bool → Type 0
OffRings hs n ranked = (t : ℕ) → t < n → visited ranked t ≡ true → OnRing hs t → ⊥
