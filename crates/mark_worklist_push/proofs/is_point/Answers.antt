-- s4 is s2 itself, or the search finds the hop. Assumes nothing.
use Rattle.std.proofs.Common.{false-eqb}
use Rattle.mark_worklist_push.proofs.Walks.{point_is}
use Rattle.mark_worklist_push.proofs.is_point.Goals as goal
use Rattle.mark_worklist_push.proofs.is_point.Goals.{else-a-eq0-via-then-a-eq0+else-eq, else-a-eq0-via-else-a-eq0}

pub returns : goal.returns
returns c =
    point_is _ _ _ _ c.leads_to.ensures
    (elim c.else-a-eq0.branch [
      | else-a-eq0-via-then-a-eq0+else-eq w ↦ (λ z. false-eqb _ _ w.if-eq.ensures)
      | else-a-eq0-via-else-a-eq0 w ↦ (λ z e. w.if-a-eq0.false z)
    ])
