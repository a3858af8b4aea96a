-- `graph::search::first_of` meets its contract. Assumes nothing.
use mathlib.Core.Path.{◌∙◌}
use Rattle.graph.specs.Search.{first_of}
use Rattle.graph.proofs.search.first_of.Goals as goal

pub returns : goal.returns
unfolding first_of
returns c = c.lower_place.ensures ∙ rw c.hop_of.ensures
