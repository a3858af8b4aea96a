-- The loop of `audit_unmatched::Stamped::first_unstamped`: no place passed so far is unstamped, nor
-- one before the first hop of r. Assumes nothing.
use Rattle.std.proofs.Common.{◌≡◌}
use Rattle.base_bounded.specs.Quantifiers.{least}
use Rattle.audit_unmatched.specs.Internal.States.{unstamped}
use Rattle.audit_unmatched.proofs.Stamped.first_unstamped.Given as goal

abbrev pub invariant-loop-j : goal.invariant-loop-j
invariant-loop-j l = least l.j (unstamped l.self.index2.hops.now l.self.stamps.now l.self.r.0 l.self.k) ≡ l.j
