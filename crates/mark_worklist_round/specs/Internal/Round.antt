-- The parts of a round of the worklist marking: what they require and what they leave. No contract
-- of an entry cites this. Assumes nothing: these are definitions.
use Rattle.std.specs.Prelude.{ℕ, suc, ◌<◌, ◌≤◌, ◌≡◌, Bool, true, false, List, length, get_or, drop, All, Contains}
use Rattle.base_bounded.specs.Quantifiers.{tally}
use Rattle.graph.specs.Hops.{count, from}
use Rattle.mark_confluence.specs.Internal.Rounds.{closes_at}
use Rattle.mark_confluence.specs.Internal.MarkSet.{mark_set}
use Rattle.mark_diamond_retest.specs.Internal.Retest.{CleanAnswered}
use Rattle.mark_worklist.specs.Tests.{still_marked}
use Rattle.mark_worklist_push.specs.declared.Worklist.{Worklist}
use Rattle.mark_worklist_push.specs.Internal.Queue.{is_set, SameArrays}

-- qs are the places below c that pass p, each once
pub record Enumerates (c : ℕ) (p : ℕ → Bool) (qs : List ℕ) : Type 0 where
  pub counted : length qs ≡ tally c p
  pub each : All (λ i. (i < c) × (p i ≡ true)) qs
  pub all : (i : ℕ) → i < c → p i ≡ true → Contains qs i

-- the states that the hops at fl leave are flagged
unfoldable pub DirtyStates : List ℕ → List ℕ → List Bool → Type 0
DirtyStates hs fl sh = All (λ p. is_set sh (from hs p) ≡ true) fl

-- a test of a later round may skip the hops to states that are not dirty: for qs these are answered
-- still
unfoldable pub SkipsClean : List ℕ → List ℕ → List Bool → List ℕ → Type 0
SkipsClean hs ms sh qs = All (CleanAnswered hs ms sh) qs

-- what testing qs leaves: fl are those of them that do not close with the set that the marks are
pub record Tested (hs ms qs fl : List ℕ) : Type 0 where
  pub each : All (λ i. Contains qs i × (closes_at hs (mark_set hs ms) i ≡ false)) fl
  pub all : (i : ℕ) → Contains qs i → closes_at hs (mark_set hs ms) i ≡ false → Contains fl i

-- the flags of qs are cleared, and no other is set
pub record Cleared (hs qs : List ℕ) (old new : List Bool) : Type 0 where
  pub flags : count hs ≤ length new
  pub taken : (i : ℕ) → Contains qs i → is_set new i ≡ false
  pub kept : (i : ℕ) → is_set new i ≡ true → is_set old i ≡ true

-- nothing is left in the queue
pub record Emptied (old new : Worklist) : Type 0 where
  pub arrays : SameArrays old new
  pub places : new.places.now ≡ old.places.now
  pub empty : new.len ≡ 0

-- the marks without those of fl
pub record Unmarked (ms fl new : List ℕ) : Type 0 where
  pub taken : (i : ℕ) → Contains fl i → get_or new i 0 ≡ 0
  pub other : (i : ℕ) → (Contains fl i → ⊥) → get_or new i 0 ≡ get_or ms i 0
  pub beyond : (c : ℕ) → All (λ p. p < c) fl → drop c new ≡ drop c ms

-- p is the place of a hop that falls in round k + 1
abbrev pub FallsIn : List ℕ → ℕ → ℕ → Type 0
FallsIn hs k p = (p < count hs) × (still_marked hs k p ≡ true) × (still_marked hs (suc k) p ≡ false)

-- fl are the places of the hops that fall in round k + 1
pub record FallenIn (hs : List ℕ) (k : ℕ) (fl : List ℕ) : Type 0 where
  pub each : All (FallsIn hs k) fl
  pub all : (p : ℕ) → FallsIn hs k p → Contains fl p
