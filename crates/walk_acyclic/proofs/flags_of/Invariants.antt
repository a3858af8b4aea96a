-- The states before s have their flags. Assumes nothing.
use Rattle.std.proofs.Common.{ℕ, ◌≡◌, ◌<◌, false, length, get_or, map}
use Rattle.graph.specs.Answers.{most_states}
use Rattle.walk_reach.specs.Internal.Frontier.{visited}
use Rattle.walk_acyclic.proofs.flags_of.Given as goal

abbrev pub invariant-loop-s : goal.invariant-loop-s
invariant-loop-s g l = record {
  size : length l.flags ≡ most_states;
  filled : (t : ℕ) → t < l.s → get_or l.flags t false ≡ visited (map g.F.Flag.raised l.ranked) t;
}
