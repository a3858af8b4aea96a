-- `graph_hops_of::span_in` meets its contract: the places lie in order within the list. Assumes
-- nothing.
use native.Mathlib.Omega.{arith}
use Rattle.graph.proofs.Lookup.{first_past, past_within}
use Rattle.graph_hops_of.proofs.span_in.Goals as goal

pub number_place-start-requires : goal.number_place-start-requires
number_place-start-requires c =
    let hs = c.args.hops.now in
    omega (arith, c.first_of-first.ensures, first_past hs c.requires.ascending c.args.state, past_within hs c.requires.ascending c.args.state, c.requires.few)

pub number_place-end-requires : goal.number_place-end-requires
number_place-end-requires c =
    let hs = c.args.hops.now in
    omega (arith, c.past_of-past.ensures, past_within hs c.requires.ascending c.args.state, c.requires.few)

pub overflow_sub-result : goal.overflow_sub-result
overflow_sub-result c =
    omega (arith, c.first_of-first.ensures, c.past_of-past.ensures, first_past c.args.hops.now c.requires.ascending c.args.state)
