-- No more marks are taken than there are. Assumes nothing.
use Rattle.std.proofs.Common.{arith}
use Rattle.mark_removal.proofs.Fixpoint.{count_within}
use Rattle.mark_sweeps.proofs.sweep.Goals as goal

pub overflow_add-lost : goal.overflow_add-lost
overflow_add-lost c =
    omega (
      arith,
      c.loop-i.invariant.fewer,
      c.test_at-lost.ensures.fewer,
      count_within c.args.index.hops.now c.args.marks.now,
      c.args.index.ready.hops_most,
    )
