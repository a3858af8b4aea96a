-- The search is at a state, and at least `got` states more are ranked. Assumes nothing.
use Rattle.std.proofs.Common.{◌<◌}
use Rattle.walk_acyclic.specs.Internal.Ranking.{Ranked}
use Rattle.walk_acyclic.proofs.Ranking.rank_from.Given as goal

abbrev pub invariant-loop : goal.invariant-loop
invariant-loop l = record { at_state : l.from.0 < l.graph.shape.states; ranked : Ranked l.fn.self l.got l.self }
