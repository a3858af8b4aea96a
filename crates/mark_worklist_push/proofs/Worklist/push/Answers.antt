-- The queue has capacity for one more while a hop is missing from it. Assumes nothing.
use Rattle.std.proofs.Common.{arith, refl, rules}
use Rattle.mark_worklist_push.proofs.Pushing.{flag_says, queue_capacity, pushed_none, pushed_one}
use Rattle.mark_worklist_push.proofs.Worklist.push.Goals as goal

pub returns-then-graph-i-ne1 : goal.returns-then-graph-i-ne1
returns-then-graph-i-ne1 c =
    pushed_none _ _ c.requires.queue (λ x l w. absurd (c.if-graph-i-ne1.true (flag_says c.args.graph.marks.now c.args.i (rw w.inside at w.marked))))

pub offset_bounds-self-self : goal.offset_bounds-self-self
offset_bounds-self-self c =
    omega (arith, queue_capacity c.args.graph.index.hops.now c.args.graph.marks.now c.requires.queue c.requires.place c.if-self-i.false, c.args.graph.index.ready.hops_most)

pub bounds-self-self : goal.bounds-self-self
bounds-self-self c =
    omega (arith, queue_capacity c.args.graph.index.hops.now c.args.graph.marks.now c.requires.queue c.requires.place c.if-self-i.false, c.args.graph.index.ready.hops_most)

pub overflow_add-self : goal.overflow_add-self
overflow_add-self c =
    omega (arith, queue_capacity c.args.graph.index.hops.now c.args.graph.marks.now c.requires.queue c.requires.place c.if-self-i.false, c.args.graph.index.ready.hops_most)

pub returns : goal.returns
returns c =
    pushed_one _ _ c.requires.queue c.requires.place c.if-self-i.false (record { flags = refl; places = refl }) refl refl refl c.requires.silent (search rules)
