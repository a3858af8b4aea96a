-- A row speaks, or the equations decide. Assumes nothing.
use Rattle.std.proofs.Common.{refl}
use Rattle.std.proofs.lemmas.Result.{err_from_is_err_and}
use Rattle.graph.proofs.Accepts.{refusal_ne0}
use Rattle.mark_entry_round.proofs.Rows.{question_refused, question_asks, question_answered}
use Rattle.mark_entry_round.proofs.question.round_question.Goals as goal

pub returns-in_err-check_question : goal.returns-in_err-check_question
returns-in_err-check_question c =
    let p = err_from_is_err_and c.from_residual.result c.from_residual.ensures.1 in
    rw (p.1, p.2) (question_refused _ _ _ _ c.in_err-check_question.ensures (refusal_ne0 _))

pub survives_rounds-requires-clause-admitted : goal.survives_rounds-requires-clause-admitted
survives_rounds-requires-clause-admitted c = (question_asks _ _ _ _ c.in_ok-check_question.ensures refl).0

pub survives_rounds-requires-clause-place : goal.survives_rounds-requires-clause-place
survives_rounds-requires-clause-place c = (question_asks _ _ _ _ c.in_ok-check_question.ensures refl).1.0

pub survives_rounds-requires-clause-silent : goal.survives_rounds-requires-clause-silent
survives_rounds-requires-clause-silent c = (question_asks _ _ _ _ c.in_ok-check_question.ensures refl).1.1.0

pub survives_rounds-requires-clause-few : goal.survives_rounds-requires-clause-few
survives_rounds-requires-clause-few c = (question_asks _ _ _ _ c.in_ok-check_question.ensures refl).1.1.1

pub returns : goal.returns
returns c = question_answered _ _ _ _ c.in_ok-check_question.ensures refl c.survives_rounds.ensures
