-- The order so far has the silent hops of the placed states. The measure is how many states are not
-- placed. Assumes nothing.
use Rattle.std.proofs.Common.{◌-◌}
use Rattle.walk_topological_order.specs.Internal.Ordering.{OrderedSoFar}
use Rattle.walk_topological_order.proofs.order_of.Given as goal

abbrev pub invariant-loop-order : goal.invariant-loop-order
invariant-loop-order l = OrderedSoFar l.ringless.graph.index.hops.now l.ringless.graph.shape.states l.sorted l.order

abbrev pub decreases-loop-order : goal.decreases-loop-order
decreases-loop-order l = l.ringless.graph.shape.states - l.order.states
