-- `graph::search::find` meets its contract: the whole list brackets every hop, and none stands
-- behind it. Assumes nothing.
use Rattle.graph.proofs.Lookup.{whole_absent}
use Rattle.graph.proofs.search.find.Goals as goal

pub find_between-requires-clause-absent : goal.find_between-requires-clause-absent
find_between-requires-clause-absent c = whole_absent _ _ c.hop_count.ensures
