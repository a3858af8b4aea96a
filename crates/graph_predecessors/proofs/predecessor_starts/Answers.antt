-- `graph_predecessors::predecessor_starts` meets its contract: the keys are where the hops end.
-- Assumes nothing.
use Rattle.graph_counting_sort.specs.Internal.CountingSort.{KeyStarts}
use Rattle.graph_predecessors.specs.Internal.PredecessorIndex.{PredecessorStarts}
use Rattle.graph_predecessors.proofs.PredecessorIndex.{targets_column}
use Rattle.graph_predecessors.proofs.predecessor_starts.Goals as goal

pub invariant_of-targets : goal.invariant_of-targets
invariant_of-targets c = record { keys = targets_column _ c.requires c.hop_count.ensures }

pub returns : goal.returns
unfolding KeyStarts PredecessorStarts
returns c = rw c.hop_count.ensures at c.key_starts.ensures
