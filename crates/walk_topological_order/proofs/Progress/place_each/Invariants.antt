-- The order so far has the silent hops of the placed states, and if no state was placed, those
-- tried so far are placed already or cannot be. Assumes nothing.
use Rattle.walk_topological_order.specs.Internal.Ordering.{OrderedSoFar, PlacedOrStuck}
use Rattle.walk_topological_order.proofs.Ordering.{From, Below}
use Rattle.walk_topological_order.proofs.Progress.place_each.Given as goal

abbrev pub invariant-loop-v : goal.invariant-loop-v
invariant-loop-v l = record {
  ordered : OrderedSoFar l.ringless.graph.index.hops.now l.ringless.graph.shape.states l.sorted l.self;
  tried : PlacedOrStuck l.ringless.graph.index.hops.now (From l.ringless.graph.shape.states l.v) l.fn.self l.self;
}

abbrev pub invariant-loop-v-else-down : goal.invariant-loop-v-else-down
invariant-loop-v-else-down l = record {
  ordered : OrderedSoFar l.ringless.graph.index.hops.now l.ringless.graph.shape.states l.sorted l.self;
  tried : PlacedOrStuck l.ringless.graph.index.hops.now (Below l.v) l.fn.self l.self;
}
