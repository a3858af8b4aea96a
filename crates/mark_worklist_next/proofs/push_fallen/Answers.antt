-- What is passed are the hops into s3. Assumes nothing.
use Rattle.std.proofs.Common.{◌≡◌, length, arith}
use Rattle.std.proofs.Math.Seq.{take-length}
use Rattle.std.proofs.lemmas.List.{take_more}
use Rattle.mark_worklist_push.specs.Internal.Queue.{Trying}
use Rattle.mark_worklist_push.proofs.Walks.{over_none, over_more, tries_all}
use Rattle.mark_worklist_next.proofs.push_fallen.Goals as goal

pub loop-j-init : goal.loop-j-init
loop-j-init c = over_none _ _ (λ j. Trying c.args.round.graph.marked.index.hops.now j c.args.p) c.requires.queue

pub push_hop-requires-clause-tried : goal.push_hop-requires-clause-tried
push_hop-requires-clause-tried c =
    rw c.from.ensures (c.hops_into-j-items.ensures.each c.loop-j.j-index 0 c.loop-j-test.true).0

pub loop-j-preserved : goal.loop-j-preserved
loop-j-preserved c =
    rw (take_more c.hops_into-j-items.result.now c.loop-j.j-index 0 c.loop-j-test.true)
    (over_more _ _ (λ j. Trying c.args.round.graph.marked.index.hops.now j c.args.p) _ _ c.loop-j.invariant (rw c.from.ensures at c.push_hop.ensures))

pub returns : goal.returns
returns c =
    let e : c.loop-j.j-index ≡ length c.hops_into-j-items.result.now = omega arith in
    tries_all _ _ _ (rw c.from_at-s3.ensures at c.hops_into-j-items.ensures) (rw (e, take-length) at c.loop-j.invariant)
