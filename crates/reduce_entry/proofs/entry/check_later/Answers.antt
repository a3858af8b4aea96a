-- `reduce_entry::entry::check_later` meets its contract: each way out is a row. Assumes nothing.
use Rattle.std.proofs.lemmas.Result.{err_from_is_err_and}
use Rattle.std.proofs.Common.{refl}
use Rattle.graph.proofs.Accepts.{refusal_ne0}
use Rattle.reduce_entry.proofs.Answering.{later_sensed, later_ringed}
use Rattle.reduce_entry.proofs.entry.check_later.Goals as goal

pub returns-in_err-sense-clause-answers : goal.returns-in_err-sense-clause-answers
returns-in_err-sense-clause-answers c =
    let p = err_from_is_err_and c.from_residual.result c.from_residual.ensures.1 in
    rw (p.1, p.2) (later_sensed _ _ _ _ _ c.in_err-sense.ensures.answers (refusal_ne0 _))

pub returns-in_err-check_rings-clause-answers : goal.returns-in_err-check_rings-clause-answers
returns-in_err-check_rings-clause-answers c =
    let p = err_from_is_err_and c.from_residual-in_err-check_rings.result c.from_residual-in_err-check_rings.ensures.1 in
    rw (p.1, p.2) (later_ringed _ _ _ _ _ c.in_ok-sense.ensures.answers refl c.in_err-check_rings.ensures (refusal_ne0 _))
