-- `mark_batch_sweeps::sweep`: what the batches so far leave of the marks, and that their hops are
-- tried. Assumes nothing.
use Rattle.std.proofs.Common.{◌-◌, min}
use Rattle.mark_senses.specs.Internal.Numbers.{condition_of}
use Rattle.mark_batch.specs.Internal.Batch.{TriedIn}
use Rattle.mark_batch.specs.Internal.Sweeping.{SweptIn}
use Rattle.mark_batch_sweeps.proofs.sweep.Given as goal

abbrev pub invariant-loop-base : goal.invariant-loop-base
invariant-loop-base l =
    SweptIn l.input (TriedIn (condition_of l.input.sense) l.input.silent.hops.now 0 (min l.base l.past)) l.initial.marks l.marks l.lost

abbrev pub decreases-loop-base : goal.decreases-loop-base
decreases-loop-base l = l.past - l.base
