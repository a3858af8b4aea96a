-- More records than a graph may have hops are refused, as `check` refuses their flat list. Assumes
-- nothing.
use Rattle.std.proofs.Common.{◌∙◌, sym, refl}
use Rattle.std.proofs.lemmas.Result.{err_from_is_err_and}
use Rattle.mark_entry_records.proofs.Flats.{check_over}
use Rattle.mark_entry_records.proofs.check_records.Goals as goal

pub returns-in_err-list : goal.returns-in_err-list
returns-in_err-list c =
    let p = err_from_is_err_and c.from_residual.result c.from_residual.ensures.1 in
    let e = c.in_err-list.ensures in
    rw (p.1, p.2) (e.refusal ∙ sym (check_over c.args.shape c.args.hops.now (e.refuses.0 refl)))
