-- Each turn pushes for the fallen hop at its place, and all are passed at the end. Assumes nothing.
use Rattle.std.proofs.Common.{◌≡◌, length, arith}
use Rattle.std.proofs.Math.Seq.{take-length}
use Rattle.std.proofs.lemmas.List.{take_more}
use Rattle.mark_worklist_push.specs.Internal.Queue.{ClosedBy}
use Rattle.mark_worklist_push.proofs.Walks.{over_none, over_more}
use Rattle.mark_worklist_next.proofs.next_queue.Goals as goal

pub loop-p-init : goal.loop-p-init
loop-p-init c = over_none _ _ (ClosedBy c.args.round.graph.marked.index.hops.now) c.requires.queue

pub loop-p-preserved : goal.loop-p-preserved
loop-p-preserved c =
    rw (take_more c.args.fallen.now c.loop-p.p-index 0 c.loop-p-test.true)
    (over_more _ _ (ClosedBy c.args.round.graph.marked.index.hops.now) _ _ c.loop-p.invariant (rw c.from.ensures at c.push_fallen.ensures))

pub returns : goal.returns
returns c =
    let e : c.loop-p.p-index ≡ length c.args.fallen.now = omega arith in
    rw (e, take-length) at c.loop-p.invariant
