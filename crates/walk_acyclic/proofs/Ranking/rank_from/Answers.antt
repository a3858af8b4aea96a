-- No more states are ranked than there are. Assumes nothing.
use native.Mathlib.Omega.{arith}
use Rattle.walk_acyclic.proofs.Ranks.{ranked_join, ranked_within}
use Rattle.walk_acyclic.proofs.Ranking.rank_from.Goals as goal

pub overflow_add-got : goal.overflow_add-got
overflow_add-got c = omega (arith, ranked_within (ranked_join c.loop.invariant.ranked c.rank_one-got.ensures), c.args.self.now.graph.admitted.states_most)
