-- The order makes that of the pass. Assumes nothing.
use Rattle.mark_batch_spread.proofs.Along.{gathered}
use Rattle.mark_batch_spread.proofs.Order.{in_order}
use Rattle.mark_batch_spread.proofs.gather.Goals as goal

pub returns : goal.returns
returns c =
    let m = c.args.marked in
    rw c.pass.ensures (gathered (in_order m.silent.ordered) m.marks.now m.silent.ready c.args.words.now c.told-words)
