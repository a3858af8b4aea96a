-- `audit_of_reduce::audit_reduction` meets its contract: the two parts are the fronts. Assumes
-- nothing.
use Rattle.std.proofs.Common.{◌∙◌}
use Rattle.audit_of_reduce.specs.AuditOfReduce.{audit_of_reduce}
use Rattle.audit_of_reduce.proofs.audit_reduction.Goals as goal

pub returns : goal.returns
unfolding audit_of_reduce
returns c = c.from.ensures ∙ (rw c.part-short_hops.ensures.shows at c.audit.ensures.figures)
