-- The least hop of s is silent, so that the silent hops are its first. Assumes nothing.
use Rattle.std.proofs.Common.{◌∙◌}
use Rattle.graph.specs.Search.{first_of}
use Rattle.graph.specs.Internal.Search.{labelled_from}
use Rattle.graph_successors.proofs.Rows.{row_bracket}
use Rattle.graph_index.proofs.Index.first_labelled.Goals as goal

pub returns-then-a-eq0 : goal.returns-then-a-eq0
unfolding labelled_from first_of
returns-then-a-eq0 c = rw c.if-a-eq0.true c.first-first.ensures

pub lower_between-requires : goal.lower_between-requires
lower_between-requires c =
    let up = c.args.self.ready.ascending in
    record { ascending = up; bracket = rw c.hop_of.ensures (row_bracket _ up _ c.first-first.ensures c.past.ensures.is_next) }

pub returns : goal.returns
unfolding labelled_from
returns c = c.lower_between.ensures ∙ rw c.hop_of.ensures
