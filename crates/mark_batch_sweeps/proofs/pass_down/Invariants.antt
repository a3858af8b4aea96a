-- `mark_batch_sweeps::pass_down`: what the batches so far leave of the marks. Assumes nothing.
use Rattle.mark_batch.specs.Internal.Batch.{NothingKnown}
use Rattle.mark_batch.specs.Internal.Sweeping.{SweptIn}
use Rattle.mark_batch_sweeps.proofs.pass_down.Given as goal

abbrev pub invariant-loop-k : goal.invariant-loop-k
invariant-loop-k l = SweptIn l.input NothingKnown l.initial.marks l.marks l.lost
