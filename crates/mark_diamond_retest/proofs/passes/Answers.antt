-- A hop that s2 has the like of is answered; any other is tried with s2's hops from its label on.
-- Assumes nothing.
use Rattle.mark_diamond.proofs.Rows.{answered_alike}
use Rattle.mark_diamond_retest.proofs.Rows.{row_is}
use Rattle.mark_diamond_retest.proofs.passes.Goals as goal

pub returns-then-leads_to : goal.returns-then-leads_to
returns-then-leads_to c =
    answered_alike _ _ _ _ (rw (c.label_at-a.ensures, c.to_at-s3.ensures) at c.leads_to.ensures) c.if-leads_to.true

pub is_answered-requires-clause-row : goal.is_answered-requires-clause-row
is_answered-requires-clause-row c =
    row_is _ c.args.graph.index.ready.ascending _ c.label_at-a.ensures c.first_labelled.ensures c.past.ensures.is_next
