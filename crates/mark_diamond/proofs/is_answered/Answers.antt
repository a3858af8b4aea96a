-- The state itself answers a silent hop, or one of its hops does. Assumes nothing.
use Rattle.std.proofs.Common.{sym, ◌∙◌}
use Rattle.mark_diamond.proofs.Rows.{answered_still, answered_else}
use Rattle.mark_diamond.proofs.is_answered.Goals as goal
use Rattle.mark_diamond.proofs.is_answered.Goals.{else-is_silent-via-then-is_silent+else-is_closed, else-is_silent-via-else-is_silent}

pub returns-then-is_closed : goal.returns-then-is_closed
returns-then-is_closed c =
    answered_still _ _ _ _ c.label_at-a.ensures c.to_at-s3.ensures c.if-is_silent.true c.is_closed.ensures c.if-is_closed.true

pub returns : goal.returns
returns c =
    answered_else _ _ _ _ c.label_at-a.ensures c.to_at-s3.ensures c.hop_answers.ensures (λ q. elim c.else-is_silent.branch [
      | else-is_silent-via-then-is_silent+else-is_closed w ↦ sym w.is_closed.ensures ∙ w.if-is_closed.false
      | else-is_silent-via-else-is_silent w ↦ absurd (w.if-is_silent.false q)
    ])
