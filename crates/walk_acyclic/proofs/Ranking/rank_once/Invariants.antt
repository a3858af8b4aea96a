-- At least `got` states more are ranked. Assumes nothing.
use Rattle.walk_acyclic.specs.Internal.Ranking.{Ranked}
use Rattle.walk_acyclic.proofs.Ranking.rank_once.Given as goal

abbrev pub invariant-loop-v : goal.invariant-loop-v
invariant-loop-v l = Ranked l.fn.self l.got l.self
