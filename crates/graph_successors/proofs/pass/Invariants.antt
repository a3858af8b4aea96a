-- Every hop passed is from s or an earlier state.
use Rattle.std.proofs.Common.{ℕ, ◌+◌, ◌<◌}
use Rattle.graph.specs.Hops.{from}
use Rattle.graph_successors.proofs.pass.Given as goal

abbrev pub invariant-loop-i : goal.invariant-loop-i
invariant-loop-i l = (j : ℕ) → j < l.i → from l.hops j < l.s + 1
