-- The flags of the hops before i are those of the silent ones. Assumes nothing.
use Rattle.std.proofs.Common.{ℕ, ◌≡◌, ◌<◌, false, length, get_or}
use Rattle.graph.specs.Answers.{most_hops}
use Rattle.walk_silent.specs.Silent.{silent_at}
use Rattle.walk_silent.proofs.chosen.silent_flags.Given as goal

abbrev pub invariant-loop-i : goal.invariant-loop-i
invariant-loop-i l = record {
  size : length l.flags ≡ most_hops;
  filled : (j : ℕ) → j < l.i → get_or l.flags j false ≡ silent_at l.hops j;
}
