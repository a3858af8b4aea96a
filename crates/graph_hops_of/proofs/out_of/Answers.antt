-- `graph_hops_of::out_of` meets its contract. Assumes nothing.
use Rattle.graph.proofs.Lookup.{first_past, past_within}
use Rattle.graph_hops_of.proofs.out_of.Goals as goal

pub part-requires-clause-rising : goal.part-requires-clause-rising
part-requires-clause-rising c =
    let hs = c.args.hops.now in
    rw (c.first_of-first.ensures, c.past_of-past.ensures) (first_past hs c.requires.ascending c.args.state)

pub part-requires-clause-within : goal.part-requires-clause-within
part-requires-clause-within c =
    let hs = c.args.hops.now in
    rw c.past_of-past.ensures (past_within hs c.requires.ascending c.args.state)
