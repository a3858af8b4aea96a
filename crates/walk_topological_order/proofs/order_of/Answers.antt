-- No state is placed at first, and in the end all are. Assumes nothing.
use native.Mathlib.Omega.{arith}
use Rattle.graph.specs.Answers.{most_states}
use Rattle.walk_topological_order.proofs.Ordering.{ordered_none, ordered_whole}
use Rattle.walk_topological_order.proofs.order_of.Goals as goal

pub loop-order-init : goal.loop-order-init
loop-order-init c = ordered_none c.args.ringless.graph.admitted.range c.requires most_states c.args.ringless.graph.admitted.states_most

pub returns : goal.returns
returns c = ordered_whole c.args.ringless.graph.admitted.range c.loop-order.invariant (omega arith)
