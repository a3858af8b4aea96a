-- Each way out is a row of the answer, and acceptance implies what marking needs. Assumes nothing.
use Rattle.std.proofs.Common.{refl}
use Rattle.std.proofs.lemmas.Result.{err_from_is_err_and}
use Rattle.graph.proofs.Accepts.{refusal_ne0, refuses, accepts}
use Rattle.graph_check.proofs.Checked.{check_admitted}
use Rattle.graph_successors.proofs.Firsts.{admitted_indexable}
use Rattle.mark_entry.proofs.Entry.{mark_refused, mark_sensed, mark_later, mark_ringless, mark_capacity, output_marked, output_same}
use Rattle.mark_entry.proofs.mark.mark.Goals as goal

pub returns-in_err-check-clause-answers : goal.returns-in_err-check-clause-answers
returns-in_err-check-clause-answers c =
    let p = err_from_is_err_and c.from_residual.result c.from_residual.ensures.1 in
    rw (p.1, p.2) (mark_refused _ _ _ _ c.in_err-check.ensures (refusal_ne0 _))

pub returns-in_err-check-clause-writes : goal.returns-in_err-check-clause-writes
returns-in_err-check-clause-writes c = output_same _ _ _ _ (refuses _ (mark_refused _ _ _ _ c.in_err-check.ensures (refusal_ne0 _)))

pub returns-in_err-sense-clause-answers : goal.returns-in_err-sense-clause-answers
returns-in_err-sense-clause-answers c =
    let p = err_from_is_err_and c.from_residual-in_err-sense.result c.from_residual-in_err-sense.ensures.1 in
    rw (p.1, p.2) (mark_sensed _ _ _ _ c.in_ok-check.ensures refl c.in_err-sense.ensures.answers (refusal_ne0 _))

pub returns-in_err-sense-clause-writes : goal.returns-in_err-sense-clause-writes
returns-in_err-sense-clause-writes c =
    output_same _ _ _ _ (refuses _ (mark_sensed _ _ _ _ c.in_ok-check.ensures refl c.in_err-sense.ensures.answers (refusal_ne0 _)))

pub put_starts-requires : goal.put_starts-requires
put_starts-requires c = admitted_indexable (check_admitted _ _ (accepts c.in_ok-check.ensures))

pub invariant_of-graph-clause-ready : goal.invariant_of-graph-clause-ready
invariant_of-graph-clause-ready c = admitted_indexable (check_admitted _ _ (accepts c.in_ok-check.ensures))

pub invariant_of-graph-2 : goal.invariant_of-graph-2
invariant_of-graph-2 c = record { admitted = check_admitted _ _ (accepts c.in_ok-check.ensures) }

pub returns-in_err-check_later-clause-answers : goal.returns-in_err-check_later-clause-answers
returns-in_err-check_later-clause-answers c =
    let p = err_from_is_err_and c.from_residual-in_err-check_later.result c.from_residual-in_err-check_later.ensures.1 in
    rw (p.1, p.2) (mark_later _ _ _ _ c.in_ok-check.ensures refl c.in_ok-sense.ensures.answers refl c.in_err-check_later.ensures)

pub returns-in_err-check_later-clause-writes : goal.returns-in_err-check_later-clause-writes
returns-in_err-check_later-clause-writes c =
    output_same _ _ _ _ (refuses _ (mark_later _ _ _ _ c.in_ok-check.ensures refl c.in_ok-sense.ensures.answers refl c.in_err-check_later.ensures))

pub invariant_of-ringless : goal.invariant_of-ringless
invariant_of-ringless c = record {
  free = mark_ringless _ _ _ c.args.marks.now (accepts (mark_later _ _ _ _ c.in_ok-check.ensures refl c.in_ok-sense.ensures.answers refl c.in_ok-check_later.ensures));
}

pub mark_in-requires : goal.mark_in-requires
mark_in-requires c = mark_capacity _ _ _ _ (accepts (mark_later _ _ _ _ c.in_ok-check.ensures refl c.in_ok-sense.ensures.answers refl c.in_ok-check_later.ensures))

pub returns-clause-answers : goal.returns-clause-answers
returns-clause-answers c = mark_later _ _ _ _ c.in_ok-check.ensures refl c.in_ok-sense.ensures.answers refl c.in_ok-check_later.ensures

pub returns-clause-writes : goal.returns-clause-writes
returns-clause-writes c = output_marked _ _ _ _ (accepts (returns-clause-answers c)) (rw c.in_ok-sense.ensures.sense at c.mark_in.ensures)
