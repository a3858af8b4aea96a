-- `audit_of_reduce::reduce_and_audit` meets its contract: by the contracts of `reduce` and
-- `audit_reduction`, and by `reduce_audit_zero`. Assumes nothing.
use Rattle.std.proofs.Common.{arith, refl}
use borrow.Author.Tests.{ne_eqb}
use Rattle.graph.proofs.Accepts.{refusal_ne0}
use Rattle.audit_of_reduce.specs.AuditOfReduce.{audit_of_reduce}
use Rattle.audit_of_reduce.proofs.Fronts.{map_there, short_there, output_faultless}
use Rattle.audit_of_reduce.proofs.reduce_and_audit.Goals as goal
use Rattle.audit_of_reduce.proofs.reduce_and_audit.Goals.{in-Ok, in-Err}

pub audit_reduction-audit-requires : goal.audit_reduction-audit-requires
audit_reduction-audit-requires c =
    let s = c.args in
    let r = c.reduce-outcome in
    let e = rw c.in-Ok.is at r.ensures.returned in
    record {
      map_there = omega (arith, map_there s.shape s.hops.now s.sense s.map.now s.short.now e refl, r.auto.map);
      short_there = omega (arith, short_there s.shape s.hops.now s.sense s.map.now s.short.now e refl, r.auto);
    }

pub returns-clause-audited : goal.returns-clause-audited
unfolding audit_of_reduce
returns-clause-audited c = elim c.match-outcome.branch [
  | in-Ok w ↦ rw (c.from-2.ensures, w.outcome-is, w.audit-is) w.audit_reduction-audit.ensures
  | in-Err w ↦
      rw (c.from-2.ensures, w.outcome-is, w.audit-is, ne_eqb _ 0 (refusal_ne0 w.in-Err.refusal), w.from.ensures, w.no_fault.ensures) refl
]

pub returns-clause-right : goal.returns-clause-right
returns-clause-right c = elim c.match-outcome.branch [
  | in-Ok w ↦
      let s = c.args in
      let r = c.reduce-outcome.ensures in
      λ _. rw w.audit-is
      (output_faultless s.shape s.hops.now s.sense s.map.now s.short.now w.in-Ok.ensures.returned refl w.audit_reduction-audit.ensures r.mapped r.shortened)
  | in-Err w ↦ λ z. absurd (refusal_ne0 w.in-Err.refusal (rw (c.from-2.ensures, w.outcome-is) at z))
]
