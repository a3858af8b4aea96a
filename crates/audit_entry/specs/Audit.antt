-- The entry `audit`: what it returns. Assumes nothing: these are definitions.
use Rattle.std.specs.Prelude.{ℕ, cond, List, eqb, Result, Ok, Err}
use Rattle.std.specs.Option.{unwrap_or}
use Rattle.graph.specs.Answers.{accepted}
use Rattle.graph.specs.declared.Shape.{Shape}
use Rattle.audit_faults.specs.Faults.{faults_of}
use Rattle.audit_faults.specs.First.{no_fault, first_fault}
use Rattle.audit_faults.specs.declared.Share.{Share}
use Rattle.audit_admitted.specs.Admitted.{audit_answer, audit_refusal_answer}
use Rattle.audit_admitted.specs.declared.AuditRefusal.{AuditRefusal}
use Rattle.audit_entry.specs.declared.Audit.{Audit}

-- the figures of what `audit` returns: the fault count and the first fault, or a refusal
abbrev pub audit_figures : Result Share AuditRefusal → Audit
audit_figures (Ok s) = record { answer = accepted; faults = s.faults; first = unwrap_or s.first no_fault }
audit_figures (Err r) = record { answer = audit_refusal_answer r; faults = 0; first = no_fault }

-- the audit's answer, and with 0 the fault count and the first fault.
-- In the field: the check that a function is a branching bisimulation.
unfoldable pub audit_of : Shape → Shape → List ℕ → List ℕ → List ℕ → Audit
audit_of sh1 sh2 h1 h2 m = record {
  answer = audit_answer sh1 sh2 h1 h2 m;
  faults = cond (eqb (audit_answer sh1 sh2 h1 h2 m).number 0) (faults_of sh1 sh2 h1 h2 m) 0;
  first = cond (eqb (audit_answer sh1 sh2 h1 h2 m).number 0) (first_fault sh1 sh2 h1 h2 m) no_fault;
}

-- accepted, no fault counted, and none named
abbrev pub faultless : Audit
faultless = record { answer = accepted; faults = 0; first = no_fault }
