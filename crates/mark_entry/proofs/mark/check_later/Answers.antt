-- Rows 5 and 6, row by row. Assumes nothing.
use Rattle.std.proofs.lemmas.Result.{err_from_is_err_and}
use Rattle.graph.proofs.Accepts.{refusal_ne0}
use Rattle.mark_entry.proofs.Entry.{later_ringed}
use Rattle.mark_entry.proofs.mark.check_later.Goals as goal

pub returns-in_err-check_rings : goal.returns-in_err-check_rings
returns-in_err-check_rings c =
    let p = err_from_is_err_and c.from_residual.result c.from_residual.ensures.1 in
    rw (p.1, p.2) (later_ringed _ _ _ c.in_err-check_rings.ensures (refusal_ne0 _))
