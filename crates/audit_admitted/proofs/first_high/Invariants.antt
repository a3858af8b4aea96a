-- No entry passed so far is the one looked for.
use Rattle.std.proofs.Common.{◌≡◌, ℕ, not}
use lib.Dec.{ltb}
use Rattle.base_bounded.specs.Quantifiers.{least}
use Rattle.graph.specs.Map.{mapped}
use Rattle.audit_admitted.proofs.first_high.Given as goal

abbrev pub invariant-loop-s : goal.invariant-loop-s
invariant-loop-s l = least l.s (λ (s : ℕ). not (ltb (mapped l.map s) l.shape2.states)) ≡ l.s
