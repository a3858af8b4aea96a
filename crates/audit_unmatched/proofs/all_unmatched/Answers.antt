-- `audit_unmatched::all_unmatched` meets its contract: its stamps are 0. Assumes nothing.
use Rattle.graph.specs.Answers.{most_hops}
use Rattle.audit_unmatched.proofs.Unmatched.{fresh_start}
use Rattle.audit_unmatched.proofs.all_unmatched.Goals as goal

pub unmatched_faults-requires : goal.unmatched_faults-requires
unmatched_faults-requires c = fresh_start _ most_hops c.args.located.mapped.auditable.ready.hops_most
