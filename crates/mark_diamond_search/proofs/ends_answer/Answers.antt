-- The ways out of the walk over s3's silent hops, and what a step keeps. Assumes nothing.
use Rattle.std.proofs.Common.{sym, ◌∙◌, arith, eq-eqb, ne_eqb}
use Rattle.mark_confluence.specs.Internal.MarkSet.{is_marked}
use Rattle.base_bounded.proofs.Bools.{clash}
use Rattle.mark_diamond_search.proofs.Ends.{leads_is, itself_answers, marked_answers, passed_next, passed_ends}
use Rattle.mark_diamond_search.proofs.ends_answer.Goals as goal
use Rattle.mark_diamond_search.proofs.ends_answer.Goals.{else-is_marked-via-then-is_marked+else-leads_to-2, else-is_marked-via-else-is_marked}

pub returns-then-leads_to : goal.returns-then-leads_to
returns-then-leads_to c = itself_answers _ _ _ _ _ c.leads_to.ensures c.if-leads_to.true

pub returns-then-label_at-ne0 : goal.returns-then-label_at-ne0
returns-then-label_at-ne0 c =
    passed_ends _ _ _ _ _ c.args.graph.index.ready.ascending c.loop-i.invariant (λ m q. c.if-label_at-ne0.true (c.label_at.ensures ∙ q))

pub returns-then-leads_to-2 : goal.returns-then-leads_to-2
unfolding is_marked
returns-then-leads_to-2 c =
    marked_answers _ _ _ _ _ c.args.graph.index.ready.ascending c.loop-i.invariant c.loop-i-test.true (sym c.label_at.ensures ∙ c.if-label_at-ne0.false)
    (eq-eqb _ _ c.if-is_marked.true) c.to_at.ensures c.leads_to-then-is_marked.ensures c.if-leads_to-2.true

pub loop-i-preserved : goal.loop-i-preserved
unfolding is_marked
loop-i-preserved c =
    passed_next _ _ _ _ _ c.args.graph.index.ready.ascending c.loop-i.invariant (λ e. elim c.else-is_marked.branch [
      | else-is_marked-via-then-is_marked+else-leads_to-2 w ↦ leads_is _ _ _ w.to_at.ensures w.leads_to-then-is_marked.ensures w.if-leads_to-2.false
      | else-is_marked-via-else-is_marked w ↦ clash e (ne_eqb _ _ w.if-is_marked.false)
    ])

pub returns : goal.returns
returns c = passed_ends _ _ _ _ _ c.args.graph.index.ready.ascending c.loop-i.invariant (λ m q. absurd (omega arith))
