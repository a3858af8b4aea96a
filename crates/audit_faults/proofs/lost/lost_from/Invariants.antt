-- The loop of `audit_faults::lost::lost_from`: the count is that of the places passed so far, and
-- of those before the first, where there is none. Assumes nothing.
use Rattle.std.proofs.Common.{◌≡◌}
use Rattle.base_bounded.specs.Quantifiers.{tally}
use Rattle.audit_faults.proofs.Preserved.{lost}
use Rattle.audit_faults.proofs.lost.lost_from.Given as goal

abbrev pub invariant-loop-i : goal.invariant-loop-i
invariant-loop-i l = l.faults ≡ tally l.i (lost l.located.mapped.hops1.now l.located.mapped.hops2.now l.located.mapped.map.now)
