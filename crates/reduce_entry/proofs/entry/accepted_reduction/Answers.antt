-- `reduce_entry::entry::accepted_reduction` meets its contract: the marks are those of the sense's
-- marked set. Assumes nothing.
use Rattle.std.proofs.Common.{arith}
use Rattle.mark_confluence.proofs.Marks.{mark_set_set}
use Rattle.mark_senses.specs.Senses.{sense_of, marked_by}
use Rattle.mark_senses.specs.Internal.Numbers.{sense_number}
use Rattle.mark_senses.proofs.Marked.{in_silent}
use Rattle.reduce_representatives.proofs.Marked.{mark_set_terminating}
use Rattle.reduce_by_marks.proofs.Along.{after_marks}
use Rattle.reduce_entry.proofs.entry.accepted_reduction.Goals as goal

pub mark_by_sense-requires : goal.mark_by_sense-requires
mark_by_sense-requires c = omega (arith, c.args.ringless.graph.admitted.hops_most)

pub reduce_marked-requires-clause-terminating : goal.reduce_marked-requires-clause-terminating
reduce_marked-requires-clause-terminating c = mark_set_terminating (record { admitted = c.args.ringless.graph.admitted; free = c.args.ringless.free }) _

pub reduce_marked-requires-clause-marks : goal.reduce_marked-requires-clause-marks
reduce_marked-requires-clause-marks c = after_marks _ _ _ _ c.mark_by_sense.ensures (omega (arith, c.args.ringless.graph.admitted.hops_most))

pub returns : goal.returns
returns c =
    let g = c.args.ringless.graph in
    let hs = g.index.hops.now in
    let k = sense_number c.args.sense in
    let made = rw (mark_set_set hs (marked_by k g.shape hs) _ _ c.mark_by_sense.ensures (in_silent (sense_of k) g.shape hs)) at c.reduce_marked.ensures in
    record { returned = made.returned; mapped = made.mapped; shortened = made.shortened }
