-- `mark_batch_sweeps::sweep_to_fixpoint`: the marks hold the marked set, those beyond the hops
-- stay, and after a sweep that takes no mark every hop is tried. Assumes nothing.
use Rattle.std.proofs.Common.{◌≡◌, ◌+◌, drop}
use Rattle.graph.specs.Hops.{count}
use Rattle.mark_removal.specs.Internal.Removal.{mark_count}
use Rattle.mark_senses.specs.Internal.Numbers.{condition_of}
use Rattle.mark_batch.specs.Internal.Batch.{TriedIn}
use Rattle.mark_batch.specs.Internal.Sweeping.{MarkingIn}
use Rattle.mark_batch_sweeps.proofs.sweep_to_fixpoint.Given as goal

abbrev pub invariant-loop-fell : goal.invariant-loop-fell
invariant-loop-fell l =
    record {
      marking : MarkingIn l.input l.marks;
      beyond : drop (count l.input.silent.hops.now) l.marks ≡ drop (count l.input.silent.hops.now) l.initial.marks;
      tried : l.fell ≡ 0 → TriedIn (condition_of l.input.sense) l.input.silent.hops.now 0 (count l.input.silent.hops.now) l.marks;
    }

abbrev pub decreases-loop-fell : goal.decreases-loop-fell
decreases-loop-fell l = mark_count l.input.silent.hops.now l.marks + l.fell
