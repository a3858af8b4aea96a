-- The places of a state's hops bracket the search, and none of them stands behind. Assumes nothing.
use Rattle.graph_successors.proofs.Rows.{row_bracket, row_absent}
use Rattle.graph_index.proofs.Index.find.Goals as goal

pub find_between-requires : goal.find_between-requires
find_between-requires c =
    let up = c.args.self.ready.ascending in
    record { ascending = up; bracket = row_bracket _ up _ c.first.ensures c.past.ensures.is_next; absent = row_absent _ up _ c.past.ensures.is_next }
