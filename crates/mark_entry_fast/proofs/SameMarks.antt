-- The two markings have one result: the marks at which sweeps end, in whatever order they took
-- marks, and those at which rounds end are the same list, since both are the marks of the marked
-- set. Assumes nothing.
use Prim.Native.Nat.{ℕ}
use mathlib.Core.Path.{◌≡◌, sym, ◌∙◌}
use mathlib.Core.List.{List, []}
use lib.ListN.{drop}
use Rattle.graph.specs.Hops.{count}
use Rattle.graph.specs.Order.{Ascending}
use Rattle.mark_confluence.specs.Rounds.{marked}
use Rattle.mark_removal.specs.Internal.Removal.{Marking}
use Rattle.mark_sweeps.specs.Internal.Sweep.{ClosesUpTo}
use Rattle.mark_sweeps.proofs.Sweeping.{rested_marks}
use Rattle.mark_worklist_loop.specs.Internal.BetweenRounds.{After}
use Rattle.mark_worklist_loop.proofs.Rounds.{after_marks}

pub sweeps_same_marks : (hs : List ℕ) → Ascending hs → (out : List ℕ) {ms : List ℕ} → Marking hs (marked hs) ms → ClosesUpTo hs (count hs) ms → drop (count hs) ms ≡ drop (count hs) out →
    {ns fl : List ℕ} {k t : ℕ} → After hs k ns out fl t → fl ≡ [] → ms ≡ ns
sweeps_same_marks hs up out m rest e a z = rested_marks hs up m rest out e ∙ sym (after_marks hs a z)
