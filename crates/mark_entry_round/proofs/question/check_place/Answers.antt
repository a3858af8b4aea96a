-- Each way out is a case of row 9. Assumes nothing.
use Rattle.mark_entry_round.proofs.Rows.{place_past, place_visible, place_silent}
use Rattle.mark_entry_round.proofs.question.check_place.Goals as goal
use Rattle.mark_entry_round.proofs.question.check_place.Goals.{then-hop_count-place-via-then-hop_count-place, then-hop_count-place-via-else-hop_count-place+then-label_at-ne0}
use native.Mathlib.Omega.{arith}

pub returns-then-hop_count-place : goal.returns-then-hop_count-place
returns-then-hop_count-place c = elim c.then-hop_count-place.branch [
  | then-hop_count-place-via-then-hop_count-place w ↦ place_past _ _ (omega (arith, c.hop_count.ensures, w.if-hop_count-place.true))
  | then-hop_count-place-via-else-hop_count-place+then-label_at-ne0 w ↦ place_visible _ _ w.label_at.ensures w.if-label_at-ne0.true
]

pub returns : goal.returns
returns c = place_silent _ _ (omega (arith, c.hop_count.ensures, c.if-hop_count-place.false)) c.label_at.ensures c.if-label_at-ne0.false
