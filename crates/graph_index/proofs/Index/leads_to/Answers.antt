-- In an ascending list the search decides. Assumes nothing.
use Rattle.std.proofs.Common.{◌∙◌, ap}
use Rattle.graph.specs.Internal.Search.{is_at}
use Rattle.graph.proofs.Lookup.{placed_has}
use Rattle.graph_index.proofs.Index.leads_to.Goals as goal

pub returns : goal.returns
returns c = rw c.hop_of.ensures at (c.is_at.ensures ∙ ap is_at c.find.ensures ∙ placed_has _ _ c.args.self.ready.ascending)
