-- The loop of `audit_unmatched::Tabled::unmatched_faults`: the sum and the first fault of the
-- states passed so far, and no stamp of a later state. Assumes nothing.
use Rattle.std.proofs.Common.{◌≡◌, ◌+◌}
use Rattle.base_bounded.specs.Quantifiers.{total}
use Rattle.audit_unmatched.specs.Internal.States.{Fresh, unmatched_of}
use Rattle.audit_unmatched.proofs.Keeping.{kept_at}
use Rattle.audit_unmatched.proofs.Tabled.unmatched_faults.Given as goal

abbrev pub invariant-loop-s : goal.invariant-loop-s
invariant-loop-s l =
    let m = l.self.located.mapped in
    record {
      fresh : Fresh m.hops2.now l.work.stamps (l.s + 1);
      counted : l.faults ≡ total l.s (unmatched_of m.shape1 m.hops1.now m.hops2.now m.map.now);
      kept : l.first ≡ kept_at m.shape1 m.hops1.now m.hops2.now m.map.now l.s;
    }
