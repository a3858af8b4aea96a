-- The marks hold the marked set, and a sweep that goes on took a mark.
use Rattle.std.proofs.Common.{◌≡◌, drop}
use Rattle.graph.specs.Hops.{count}
use Rattle.mark_confluence.specs.Rounds.{marked}
use Rattle.mark_removal.specs.Internal.Removal.{mark_count, Marking}
use Rattle.mark_sweeps.proofs.sweep_to_fixpoint.Given as goal

abbrev pub invariant-loop : goal.invariant-loop
invariant-loop l =
    let hs = l.index.hops.now in
    record {
      marking : Marking hs (marked hs) l.marks;
      beyond : drop (count hs) l.marks ≡ drop (count hs) l.initial.marks;
    }

abbrev pub decreases-loop : goal.decreases-loop
decreases-loop l = mark_count l.index.hops.now l.marks
