-- `audit_faults::lost::lost_faults` meets its contract: where the search finds no hop, none is
-- lost. Assumes nothing.
use Rattle.std.proofs.Common.{refl, sym}
use Rattle.base_bounded.proofs.Least.{zero_least}
use Rattle.graph_check.proofs.Placed.{none_place}
use Rattle.audit_faults.specs.Faults.{lost_faults}
use Rattle.audit_faults.specs.First.{lost_place}
use Rattle.audit_faults.proofs.lost.lost_faults.Goals as goal

pub returns-in-None-clause-counts : goal.returns-in-None-clause-counts
unfolding lost_faults lost_place
returns-in-None-clause-counts c = sym (zero_least _ _ (none_place c.in-None.ensures refl))
