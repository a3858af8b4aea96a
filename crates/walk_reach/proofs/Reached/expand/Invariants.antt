-- The frontier has grown by the ends of the chosen hops passed so far. Assumes nothing.
use Rattle.walk_reach.specs.Internal.Reach.{chosen_in}
use Rattle.walk_reach.specs.Internal.Frontier.{SameSpace}
use Rattle.walk_reach.proofs.Expanding.{Passed}
use Rattle.walk_reach.proofs.Reached.expand.Given as goal

abbrev pub invariant-loop-i : goal.invariant-loop-i
invariant-loop-i l = record {
  space : SameSpace l.fn.self l.self;
  passed : Passed l.graph.index.hops.now (chosen_in l.chosen) l.graph.shape.states l.fn.v.0 l.i
      l.fn.self.seen.now l.fn.self.queue.now l.fn.self.tail l.self.seen.now l.self.queue.now l.self.tail;
}
