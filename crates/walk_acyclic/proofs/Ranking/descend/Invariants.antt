-- It is always at a state. Assumes nothing.
use Rattle.std.proofs.Common.{◌<◌}
use Rattle.walk_acyclic.proofs.Ranking.descend.Given as goal

abbrev pub invariant-loop : goal.invariant-loop
invariant-loop l = l.top.0 < l.graph.shape.states
