-- What `pass` leaves is the pass of the definition. Assumes nothing.
use Rattle.std.proofs.Common.{false, length}
use Rattle.mark_batch_spread.specs.Internal.Step.{visited_hop}
use Rattle.mark_batch_spread.proofs.Along.{along_none, along_more}
use Rattle.mark_batch_spread.proofs.pass.Goals as goal

pub loop-i-init : goal.loop-i-init
loop-i-init c = along_none _ _ _ _ _

pub loop-i-preserved : goal.loop-i-preserved
loop-i-preserved c =
    let sorted = c.args.marked.silent.sorted.now in
    along_more _ _ _ (visited_hop sorted (length sorted) false) _ _ c.from.ensures c.loop-i.invariant c.step.ensures
