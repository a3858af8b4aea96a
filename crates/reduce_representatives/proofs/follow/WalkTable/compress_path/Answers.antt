-- Along the table in which representatives have been entered a rank falls, too.
use Rattle.reduce_representatives.proofs.Compressed.{falling_terminating}
use Rattle.reduce_representatives.proofs.follow.WalkTable.compress_path.Goals as goal

pub invariant_of-self : goal.invariant_of-self
invariant_of-self c =
    let w = c.args.self.now in
    let e = c.compress_path.ensures in
    record { few = w.few; closed = e.closed; terminating = falling_terminating e.falls w.terminating }
