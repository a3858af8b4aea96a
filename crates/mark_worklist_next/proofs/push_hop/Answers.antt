-- Where no marked hop leaves s1, none is wanted; and no place is past the hops. Assumes nothing.
use Rattle.std.proofs.Common.{◌∙◌, arith}
use Rattle.graph.proofs.Lookup.{first_within}
use Rattle.mark_worklist_push.proofs.Walks.{trying_none}
use Rattle.mark_worklist_next.proofs.push_hop.Goals as goal

pub returns-then-not-leaves : goal.returns-then-not-leaves
returns-then-not-leaves c =
    trying_none _ _ _ _ c.args.round.leaving.now c.args.round.leaves (c.from.ensures ∙ c.from_at-s1.ensures) c.if-not-leaves.true c.requires.queue

pub overflow_add-end : goal.overflow_add-end
overflow_add-end c =
    let i = c.args.round.graph.marked.index in
    omega (arith, c.end.ensures.within, c.first.ensures, first_within i.hops.now i.ready.ascending c.from_at-s1.result.0, i.ready.hops_most)

pub overflow_add-end-2 : goal.overflow_add-end-2
overflow_add-end-2 c =
    let i = c.args.round.graph.marked.index in
    omega (arith, c.end.ensures.within, c.first.ensures, first_within i.hops.now i.ready.ascending c.from_at-s1.result.0, i.ready.hops_most)
