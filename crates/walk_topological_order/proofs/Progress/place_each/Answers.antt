-- A pass that has tried every state places one, if not all are placed. Assumes nothing.
use native.Mathlib.Omega.{arith}
use Rattle.walk_topological_order.proofs.Ordering.{pass_more}
use Rattle.walk_topological_order.proofs.Progress.place_each.Goals as goal

pub returns-after-loop-v : goal.returns-after-loop-v
returns-after-loop-v c = record {
  ordered = c.loop-v.invariant.ordered;
  more = pass_more c.args.ringless.graph.admitted.range c.args.ringless.free c.requires c.loop-v.invariant.tried (λ u l. (omega arith, l));
}

pub returns-after-loop-v-else-down : goal.returns-after-loop-v-else-down
returns-after-loop-v-else-down c = record {
  ordered = c.loop-v-else-down.invariant.ordered;
  more = pass_more c.args.ringless.graph.admitted.range c.args.ringless.free c.requires c.loop-v-else-down.invariant.tried (λ u l. omega arith);
}
