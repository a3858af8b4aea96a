-- No state passed so far is on a ring. Assumes nothing.
use Rattle.std.proofs.Common.{◌≡◌, length}
use Rattle.base_bounded.specs.Quantifiers.{least}
use Rattle.graph.specs.Answers.{most_states}
use Rattle.walk_silent.specs.Silent.{on_ring}
use Rattle.walk_rings.proofs.lowest_unranked.Given as goal

abbrev pub invariant-loop-s : goal.invariant-loop-s
invariant-loop-s l = record {
  seen_size : length l.seen ≡ most_states;
  queue_size : length l.queue ≡ most_states;
  none : least l.s (on_ring l.ranking.graph.index.hops.now l.ranking.graph.shape.states) ≡ l.s;
}
