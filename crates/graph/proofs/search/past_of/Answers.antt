-- `graph::search::past_of` meets its contract. Assumes nothing.
use Rattle.graph.specs.Search.{past_of}
use Rattle.graph.proofs.search.past_of.Goals as goal

pub returns : goal.returns
unfolding past_of
returns c = c.first_of.ensures
