-- The loop of `audit_unmatched::Stamped::unstamped_from`: the count is that of the places passed so
-- far, and of those before the first, where there is none. Assumes nothing.
use Rattle.std.proofs.Common.{◌≡◌, ◌≤◌}
use Rattle.base_bounded.specs.Quantifiers.{tally}
use Rattle.graph.specs.Hops.{count}
use Rattle.audit_unmatched.specs.Internal.States.{unstamped}
use Rattle.audit_unmatched.proofs.Stamped.unstamped_from.Given as goal

abbrev pub invariant-loop-j : goal.invariant-loop-j
invariant-loop-j l = record {
  within : l.j ≤ count l.self.index2.hops.now;
  counted : l.faults ≡ tally l.j (unstamped l.self.index2.hops.now l.self.stamps.now l.self.r.0 l.self.k);
}
