-- Marking by the weaker senses: what is known of marks once a batch of hops has been tried against
-- them. Assumes nothing: these are definitions.
use Rattle.std.specs.Prelude.{ℕ, ◌<◌, ◌≤◌, ◌≡◌, true, List}
use Rattle.graph.specs.Hops.{count, from, label, to}
use Rattle.lts.specs.Closes.{Sense, Answered}
use Rattle.walk_silent.specs.Silent.{HopOf}
use Rattle.base_fixpoint.specs.Pairs.{In}
use Rattle.mark_confluence.specs.Internal.MarkSet.{is_marked, mark_set}

-- the hop at place j is answered from the end of the hop at place i, with the set that the marks
-- are
abbrev pub AnsweredAt : Sense → List ℕ → List ℕ → ℕ → ℕ → Type 0
AnsweredAt sense hs ms i j = Answered sense (HopOf hs) (In (mark_set hs ms)) (to hs i) (label hs j) (to hs j)

-- for each marked hop each hop of its state from place lo on and before hi is answered
abbrev pub TriedIn : Sense → List ℕ → ℕ → ℕ → List ℕ → Type 0
TriedIn sense hs lo hi ms =
    (i j : ℕ) → i < count hs → is_marked ms i ≡ true → lo ≤ j → j < hi → from hs j ≡ from hs i → AnsweredAt sense hs ms i j

-- nothing is known of the marks
abbrev pub NothingKnown : List ℕ → Type 0
NothingKnown ms = Unit {0}
