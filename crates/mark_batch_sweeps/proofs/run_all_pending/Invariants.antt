-- `mark_batch_sweeps::run_all_pending`: what the passes so far leave of the marks; each but
-- the last takes a mark. Assumes nothing.
use Rattle.mark_removal.specs.Internal.Removal.{mark_count}
use Rattle.mark_batch.specs.Internal.Batch.{NothingKnown}
use Rattle.mark_batch.specs.Internal.Sweeping.{SweptIn}
use Rattle.mark_batch_sweeps.proofs.run_all_pending.Given as goal

abbrev pub invariant-loop-all : goal.invariant-loop-all
invariant-loop-all l = SweptIn l.input NothingKnown l.initial.marks l.marks l.all

abbrev pub decreases-loop-all : goal.decreases-loop-all
decreases-loop-all l = mark_count l.input.silent.hops.now l.marks
