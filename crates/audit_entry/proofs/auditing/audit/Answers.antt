-- The two ways out are the two cases of the definition. Assumes nothing.
use Rattle.std.proofs.Common.{◌∙◌, ap, refl}
use Rattle.std.proofs.lemmas.Result.{err_from_is_err_and}
use Rattle.graph.proofs.Accepts.{accepts}
use Rattle.audit_admitted.proofs.Admitted.{audit_refusal_ne0, answer_audited}
use Rattle.std.specs.Option.{unwrap_or}
use Rattle.audit_faults.specs.First.{no_fault}
use Rattle.audit_faults.proofs.Naming.{named_figures}
use Rattle.audit_entry.proofs.Answering.{auditable, audit_refuses, audit_counts}
use Rattle.audit_entry.proofs.auditing.audit.Goals as goal

pub returns-in_err-check_audit-clause-figures : goal.returns-in_err-check_audit-clause-figures
returns-in_err-check_audit-clause-figures c =
    let p = err_from_is_err_and c.from_residual.result c.from_residual.ensures.1 in
    rw (p.1, p.2) (audit_refuses _ _ _ _ _ c.in_err-check_audit.ensures (audit_refusal_ne0 _))

pub fault_count-requires : goal.fault_count-requires
fault_count-requires c = auditable (answer_audited _ _ _ _ _ (accepts c.in_ok-check_audit.ensures))

pub returns-clause-figures : goal.returns-clause-figures
returns-clause-figures c =
    let first = ap (λ o. unwrap_or o no_fault) c.fault_count.ensures.names ∙ named_figures _ _ _ _ _ in
    audit_counts _ _ _ _ _ c.in_ok-check_audit.ensures refl c.fault_count.ensures.counts first
