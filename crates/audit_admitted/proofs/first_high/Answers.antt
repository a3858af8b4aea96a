-- No entry passed so far is the one looked for. Assumes nothing.
use Rattle.std.proofs.lemmas.Bool.{not_from_false}
use Rattle.std.proofs.Common.{sym}
use native.Mathlib.Omega.{arith}
use borrow.Author.Tests.{le-ltb}
use Rattle.base_bounded.proofs.Quantifiers.{least_found}
use Rattle.graph_check.proofs.Placed.{place_some}
use Rattle.audit_admitted.specs.Admitted.{first_high}
use Rattle.audit_admitted.proofs.first_high.Goals as goal

pub returns-then-shape2-from : goal.returns-then-shape2-from
unfolding first_high
returns-then-shape2-from c = place_some (omega arith) (sym (least_found _ _ (omega arith) c.loop-s.invariant (not_from_false _ (le-ltb _ _ (omega arith)))))
