-- The answer of what the checks of an audit returned. Assumes nothing: this is a definition.
use Rattle.std.specs.Prelude.{Result, Ok, Err}
use Rattle.graph.specs.Answers.{accepted}
use Rattle.graph.specs.declared.Answer.{Answer}
use Rattle.audit_admitted.specs.Admitted.{audit_refusal_answer}
use Rattle.audit_admitted.specs.declared.AuditRefusal.{AuditRefusal}

-- the answer of an audit that returns something, or refuses
abbrev pub audit_answer_of : {A : Type 0} → Result A AuditRefusal → Answer
audit_answer_of (Ok x) = accepted
audit_answer_of (Err r) = audit_refusal_answer r
