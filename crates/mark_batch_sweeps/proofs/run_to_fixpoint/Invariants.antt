-- `mark_batch_sweeps::run_to_fixpoint`: what the tries so far leave of the marks; each but the last
-- takes a mark. Assumes nothing.
use Rattle.mark_removal.specs.Internal.Removal.{mark_count}
use Rattle.mark_batch.specs.Internal.Batch.{NothingKnown}
use Rattle.mark_batch.specs.Internal.Sweeping.{SweptIn}
use Rattle.mark_batch_sweeps.proofs.run_to_fixpoint.Given as goal

abbrev pub invariant-loop-batch : goal.invariant-loop-batch
invariant-loop-batch l = SweptIn l.input NothingKnown l.initial.marks l.marks l.all

abbrev pub decreases-loop-batch : goal.decreases-loop-batch
decreases-loop-batch l = mark_count l.input.silent.hops.now l.marks
