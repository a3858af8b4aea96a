-- The hops labelled a end where those of the next label begin. Assumes nothing.
use Rattle.graph.specs.Internal.Search.{labelled_past}
use Rattle.graph_index.proofs.Index.past_labelled.Goals as goal

pub returns : goal.returns
unfolding labelled_past
returns c = c.first_labelled.ensures
