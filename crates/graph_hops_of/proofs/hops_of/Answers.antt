-- The chosen table is admitted, so its hops stand in order. Assumes nothing.
use Rattle.graph_hops_of.proofs.Chosen.{shows_narrow, first_shows, second_shows}
use Rattle.graph_hops_of.proofs.hops_of.Goals as goal

pub out_of-requires-clause-ascending : goal.out_of-requires-clause-ascending
out_of-requires-clause-ascending c = (first_shows _ _ _ _ _ _ c.in-Some-First.ensures c.in-Some-First.field-0-is).admitted.ascending

pub out_of-requires-clause-state : goal.out_of-requires-clause-state
out_of-requires-clause-state c = shows_narrow _ _ _ _ _ _ (first_shows _ _ _ _ _ _ c.in-Some-First.ensures c.in-Some-First.field-0-is)

pub out_of-requires-in-Some-Second-clause-ascending : goal.out_of-requires-in-Some-Second-clause-ascending
out_of-requires-in-Some-Second-clause-ascending c = (second_shows _ _ _ _ _ _ c.in-Some-Second.ensures c.in-Some-Second.field-0-is).admitted.ascending

pub out_of-requires-in-Some-Second-clause-state : goal.out_of-requires-in-Some-Second-clause-state
out_of-requires-in-Some-Second-clause-state c = shows_narrow _ _ _ _ _ _ (second_shows _ _ _ _ _ _ c.in-Some-Second.ensures c.in-Some-Second.field-0-is)
