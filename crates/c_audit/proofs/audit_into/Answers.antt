-- The answer is that of the result of `audit`. Assumes nothing.
use Rattle.audit_entry.specs.Audit.{audit_of}
use Rattle.c_audit.proofs.audit_into.Goals as goal

pub returns-clause-returns : goal.returns-clause-returns
unfolding audit_of
returns-clause-returns c = rw (c.from-audited.ensures, c.audit.ensures.figures) at c.put_audit.ensures.returns
