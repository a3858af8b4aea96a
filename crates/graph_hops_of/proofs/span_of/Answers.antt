-- The chosen table is admitted, so its hops stand in order. Assumes nothing.
use Rattle.graph_hops_of.proofs.Chosen.{shows_narrow, first_shows, second_shows}
use Rattle.graph_hops_of.proofs.span_of.Goals as goal

pub span_in-requires-clause-ascending : goal.span_in-requires-clause-ascending
span_in-requires-clause-ascending c = (first_shows _ _ _ _ _ _ c.in-Some-First.ensures c.in-Some-First.field-0-is).admitted.ascending

pub span_in-requires-clause-few : goal.span_in-requires-clause-few
span_in-requires-clause-few c = (first_shows _ _ _ _ _ _ c.in-Some-First.ensures c.in-Some-First.field-0-is).admitted.hops_most

pub span_in-requires-clause-state : goal.span_in-requires-clause-state
span_in-requires-clause-state c = shows_narrow _ _ _ _ _ _ (first_shows _ _ _ _ _ _ c.in-Some-First.ensures c.in-Some-First.field-0-is)

pub span_in-requires-in-Some-Second-clause-ascending : goal.span_in-requires-in-Some-Second-clause-ascending
span_in-requires-in-Some-Second-clause-ascending c = (second_shows _ _ _ _ _ _ c.in-Some-Second.ensures c.in-Some-Second.field-0-is).admitted.ascending

pub span_in-requires-in-Some-Second-clause-few : goal.span_in-requires-in-Some-Second-clause-few
span_in-requires-in-Some-Second-clause-few c = (second_shows _ _ _ _ _ _ c.in-Some-Second.ensures c.in-Some-Second.field-0-is).admitted.hops_most

pub span_in-requires-in-Some-Second-clause-state : goal.span_in-requires-in-Some-Second-clause-state
span_in-requires-in-Some-Second-clause-state c = shows_narrow _ _ _ _ _ _ (second_shows _ _ _ _ _ _ c.in-Some-Second.ensures c.in-Some-Second.field-0-is)
