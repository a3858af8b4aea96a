-- Each place passed has a label below a.
use Rattle.std.proofs.Common.{ℕ, ◌<◌, ◌≤◌}
use Rattle.graph.specs.Hops.{label}
use Rattle.mark_diamond.proofs.skip.Given as goal

abbrev pub invariant-loop-k : goal.invariant-loop-k
invariant-loop-k l = (j : ℕ) → l.at ≤ j → j < l.k → label l.index.hops.now j < l.a.0
