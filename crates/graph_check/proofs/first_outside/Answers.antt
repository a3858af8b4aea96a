-- The first place that is not inside is the one looked for. Assumes nothing.
use Rattle.std.proofs.Common.{sym, ap, not, ◌∙◌}
use native.Mathlib.Omega.{arith}
use Rattle.base_bounded.proofs.Quantifiers.{least_found}
use Rattle.graph_check.specs.Check.{first_outside}
use Rattle.graph_check.proofs.first_outside.Goals as goal

pub returns-then-not-is_inside : goal.returns-then-not-is_inside
unfolding first_outside
returns-then-not-is_inside c =
    sym (least_found _ _ (omega arith) c.loop-i.invariant (ap not (sym c.is_inside.ensures ∙ c.if-not-is_inside.true)))
