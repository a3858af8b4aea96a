-- The marks are those of document 01's marked set, and so the set that is reduced along is that
-- one.
use Rattle.mark_confluence.specs.Rounds.{marked}
use Rattle.mark_confluence.proofs.Marked.{marked_confluent}
use Rattle.mark_confluence.proofs.Marks.{mark_set_set}
use Rattle.reduce_representatives.proofs.Marked.{mark_set_terminating}
use Rattle.reduce_by_marks.proofs.Along.{after_marks}
use Rattle.reduce_strong.proofs.reduce_strong.Goals as goal

pub reduce_marked-requires-clause-terminating : goal.reduce_marked-requires-clause-terminating
reduce_marked-requires-clause-terminating c = mark_set_terminating (record { admitted = c.args.ringless.graph.admitted; free = c.args.ringless.free }) _

pub reduce_marked-requires-clause-marks : goal.reduce_marked-requires-clause-marks
reduce_marked-requires-clause-marks c = after_marks _ _ _ _ c.mark_rounds.ensures.writes c.requires.marks_capacity

pub returns : goal.returns
returns c =
    let hs = c.args.ringless.graph.index.hops.now in
    let e = c.mark_rounds.ensures.writes in
    let made = rw (mark_set_set hs (marked hs) _ _ e (marked_confluent hs).silent) at c.reduce_marked.ensures in
    record { returned = made.returned; marked = e; mapped = made.mapped; shortened = made.shortened }
