-- What is passed are the hops into s4. Assumes nothing.
use Rattle.std.proofs.Common.{◌≡◌, length, arith}
use Rattle.std.proofs.Math.Seq.{take-length}
use Rattle.std.proofs.lemmas.List.{take_more}
use Rattle.mark_worklist_push.specs.Internal.Queue.{Like}
use Rattle.mark_worklist_push.proofs.Walks.{over_none, over_more, into_all}
use Rattle.mark_worklist_push.proofs.push_answers.Goals as goal

pub loop-k-init : goal.loop-k-init
loop-k-init c = over_none _ _ (Like c.args.graph.marked.index.hops.now c.args.j) c.requires.queue

pub push_like-requires-clause-answer : goal.push_like-requires-clause-answer
push_like-requires-clause-answer c =
    rw c.from.ensures (c.hops_into-k-items.ensures.each c.loop-k.k-index 0 c.loop-k-test.true).0

pub loop-k-preserved : goal.loop-k-preserved
loop-k-preserved c =
    rw (take_more c.hops_into-k-items.result.now c.loop-k.k-index 0 c.loop-k-test.true)
    (over_more _ _ (Like c.args.graph.marked.index.hops.now c.args.j) _ _ c.loop-k.invariant (rw c.from.ensures at c.push_like.ensures))

pub returns : goal.returns
returns c =
    let e : c.loop-k.k-index ≡ length c.hops_into-k-items.result.now = omega arith in
    into_all _ _ _ _ (rw c.to_at-s4.ensures at c.hops_into-k-items.ensures) (rw (e, take-length) at c.loop-k.invariant)
