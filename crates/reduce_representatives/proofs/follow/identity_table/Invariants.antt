-- The elements below s are filled.
use Rattle.std.proofs.Common.{◌≡◌, ◌<◌, ℕ, length, get_or}
use Rattle.graph.specs.Answers.{most_states}
use Rattle.reduce_representatives.proofs.follow.identity_table.Given as goal

abbrev pub invariant-loop-s : goal.invariant-loop-s
invariant-loop-s l = record { long : length l.to-items ≡ most_states; filled : (t : ℕ) → t < l.s → get_or l.to-items t 0 ≡ t }
