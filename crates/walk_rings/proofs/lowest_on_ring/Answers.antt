-- Where all states are ranked there is no ring. Assumes nothing.
use native.Mathlib.Omega.{arith}
use Rattle.std.proofs.Common.{ap, sym}
use Rattle.graph.specs.Answers.{most_states}
use Rattle.walk_acyclic.proofs.Ranks.{off_rings_none, ranked_all_lowest}
use Rattle.walk_rings.proofs.lowest_on_ring.Goals as goal

pub invariant_of-ranking : goal.invariant_of-ranking
invariant_of-ranking c =
    let g = c.args.graph in
    record { unringed = off_rings_none g.index.hops.now g.shape.states most_states g.admitted.states_most }

pub returns-then-rank_all-graph : goal.returns-then-rank_all-graph
returns-then-rank_all-graph c =
    let same = c.rank_all.ensures.same_graph in
    rw same at (sym (ranked_all_lowest c.rank_all.ensures (omega (arith, ap (λ g. g.shape.states) same, c.if-rank_all-graph.true))))

pub returns : goal.returns
returns c = rw c.rank_all.ensures.same_graph at c.lowest_unranked.ensures
