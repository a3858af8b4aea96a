-- Rows 1 to 4 speak, or row 19, or the later ones do. Assumes nothing.
use Rattle.std.proofs.Common.{refl}
use Rattle.std.proofs.lemmas.Result.{err_from_is_err_and}
use Rattle.graph.proofs.Accepts.{refusal_ne0, accepts}
use Rattle.graph_check.proofs.Checked.{check_admitted}
use Rattle.graph_successors.proofs.Firsts.{admitted_indexable}
use Rattle.mark_entry.proofs.Entry.{mark_refused, mark_sensed, mark_later}
use Rattle.mark_entry.proofs.mark.check_mark.Goals as goal

pub returns-in_err-check : goal.returns-in_err-check
returns-in_err-check c =
    let p = err_from_is_err_and c.from_residual.result c.from_residual.ensures.1 in
    rw (p.1, p.2) (mark_refused _ _ _ _ c.in_err-check.ensures (refusal_ne0 _))

pub returns-in_err-try_from : goal.returns-in_err-try_from
returns-in_err-try_from c =
    let p = err_from_is_err_and c.from_residual-in_err-try_from.result c.from_residual-in_err-try_from.ensures.1 in
    rw (p.1, p.2) (mark_sensed _ _ _ _ c.in_ok-check.ensures refl c.in_err-try_from.ensures.answers (refusal_ne0 _))

pub put_starts-requires : goal.put_starts-requires
put_starts-requires c = admitted_indexable (check_admitted _ _ (accepts c.in_ok-check.ensures))

pub invariant_of-graph-clause-ready : goal.invariant_of-graph-clause-ready
invariant_of-graph-clause-ready c = admitted_indexable (check_admitted _ _ (accepts c.in_ok-check.ensures))

pub invariant_of-graph-2 : goal.invariant_of-graph-2
invariant_of-graph-2 c = record { admitted = check_admitted _ _ (accepts c.in_ok-check.ensures) }

pub returns : goal.returns
returns c = mark_later _ _ _ _ c.in_ok-check.ensures refl c.in_ok-try_from.ensures.answers refl c.check_later.ensures
