-- The search that began at s holds. Assumes nothing.
use Rattle.std.proofs.Common.{◌-◌}
use Rattle.walk_reach.specs.Internal.Reach.{chosen_in}
use Rattle.walk_reach.specs.Internal.Frontier.{SameSpace}
use Rattle.walk_reach.proofs.Search.{Search}
use Rattle.walk_reach.proofs.reach.Given as goal

abbrev pub invariant-loop-head : goal.invariant-loop-head
invariant-loop-head l = record {
  space : SameSpace l.initial.reached l.reached;
  search : Search l.graph.index.hops.now (chosen_in l.chosen) l.graph.shape.states l.fn.s.0 l.fn.seen l.fn.queue l.reached.seen.now l.reached.queue.now l.head l.reached.tail;
}

abbrev pub decreases-loop-head : goal.decreases-loop-head
decreases-loop-head l = l.graph.shape.states - l.head
