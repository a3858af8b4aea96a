-- `graph_predecessors::places_of` meets its contract: the keys are where the hops end, and no order
-- puts the places themselves. Assumes nothing.
use Rattle.graph_counting_sort.specs.Internal.CountingSort.{KeyStarts}
use Rattle.graph_predecessors.specs.Internal.PredecessorIndex.{PredecessorStarts}
use Rattle.graph_predecessors.proofs.PredecessorIndex.{targets_column, places_filled}
use Rattle.graph_predecessors.proofs.places_of.Goals as goal

pub invariant_of-targets : goal.invariant_of-targets
invariant_of-targets c = record { keys = targets_column _ c.requires.ready c.hop_count.ensures }

pub fill-requires : goal.fill-requires
unfolding KeyStarts PredecessorStarts
fill-requires c =
    let e = c.hop_count.ensures in
    λ s l. rw e (c.requires.begins s l)

pub returns : goal.returns
returns c = places_filled _ c.hop_count.ensures _ c.fill.ensures
