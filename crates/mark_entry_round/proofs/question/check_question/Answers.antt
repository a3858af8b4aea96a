-- The first row that speaks. Assumes nothing.
use Rattle.std.proofs.Common.{refl}
use Rattle.std.proofs.lemmas.Result.{err_from_is_err_and}
use Rattle.graph.proofs.Accepts.{refusal_ne0}
use Rattle.mark_entry_round.proofs.Rows.{answer_checked, answer_placed, answer_rounds}
use Rattle.mark_entry_round.proofs.question.check_question.Goals as goal

pub returns-in_err-check : goal.returns-in_err-check
returns-in_err-check c =
    let p = err_from_is_err_and c.from_residual.result c.from_residual.ensures.1 in
    rw (p.1, p.2) (answer_checked _ _ _ _ c.in_err-check.ensures (refusal_ne0 _))

pub returns-in_err-check_place : goal.returns-in_err-check_place
returns-in_err-check_place c =
    let p = err_from_is_err_and c.from_residual-in_err-check_place.result c.from_residual-in_err-check_place.ensures.1 in
    rw (p.1, p.2) (answer_placed _ _ _ _ c.in_ok-check.ensures refl c.in_err-check_place.ensures (refusal_ne0 _))

pub returns : goal.returns
returns c = answer_rounds _ _ _ _ c.in_ok-check.ensures refl c.in_ok-check_place.ensures refl c.check_rounds.ensures
