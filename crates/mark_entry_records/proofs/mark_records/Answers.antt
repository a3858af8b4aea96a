-- More records than a graph may have hops are refused, as `mark` refuses their flat list, and
-- nothing is written. Assumes nothing.
use Rattle.std.proofs.Common.{◌∙◌, sym, refl}
use Rattle.std.proofs.lemmas.Result.{err_from_is_err_and}
use Rattle.mark_entry_records.proofs.Flats.{mark_over, output_over}
use Rattle.mark_entry_records.proofs.mark_records.Goals as goal

pub returns-in_err-list-clause-answers : goal.returns-in_err-list-clause-answers
returns-in_err-list-clause-answers c =
    let p = err_from_is_err_and c.from_residual.result c.from_residual.ensures.1 in
    let e = c.in_err-list.ensures in
    rw (p.1, p.2) (e.refusal ∙ sym (mark_over c.args.shape c.args.hops.now c.args.sense c.args.marks.now (e.refuses.0 refl)))

pub returns-in_err-list-clause-writes : goal.returns-in_err-list-clause-writes
returns-in_err-list-clause-writes c =
    sym (output_over c.args.shape c.args.hops.now c.args.sense c.args.marks.now (c.in_err-list.ensures.refuses.0 refl))
