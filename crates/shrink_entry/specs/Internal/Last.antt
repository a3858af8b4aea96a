-- The last graph as the code returns it. Assumes nothing: this is a definition.
use Rattle.graph.specs.Hops.{count}
use Rattle.shrink_iterate.specs.Iterate.{Stage}
use Rattle.shrink_entry.specs.declared.LastGraph.{LastGraph}

-- what a stage has besides its hops and its map
abbrev pub last_graph : Stage → LastGraph
last_graph g = record { shape = g.shape; hops = count g.hops; reductions = g.reductions }
