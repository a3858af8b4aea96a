-- The states before s have what they should, the others what they had. Assumes nothing.
use Rattle.std.proofs.Common.{ℕ, ◌≡◌, ◌<◌, ◌≤◌, ◌||◌, map, drop}
use Rattle.walk_reach.specs.Internal.Frontier.{visited}
use Rattle.walk_acyclic.proofs.put_flags.Given as goal

abbrev pub invariant-loop-s : goal.invariant-loop-s
invariant-loop-s g l = record {
  passed : (t : ℕ) → t < l.s → visited (map g.F.Flag.raised l.ranked) t ≡ (visited l.flags t || visited (map g.F.Flag.raised l.fn.ranked) t);
  left : (t : ℕ) → l.s ≤ t → visited (map g.F.Flag.raised l.ranked) t ≡ visited (map g.F.Flag.raised l.fn.ranked) t;
  rest : drop l.states l.ranked ≡ drop l.states l.fn.ranked;
}
