-- No hop passed so far is out of range.
use Rattle.std.proofs.Common.{◌≡◌, ℕ, not}
use Rattle.base_bounded.specs.Quantifiers.{least}
use Rattle.graph_check.specs.Check.{inside}
use Rattle.graph_check.proofs.first_outside.Given as goal

abbrev pub invariant-loop-i : goal.invariant-loop-i
invariant-loop-i l = least l.i (λ (j : ℕ). not (inside l.shape l.hops j)) ≡ l.i
