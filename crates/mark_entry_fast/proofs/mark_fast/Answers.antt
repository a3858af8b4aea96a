-- Acceptance implies what marking needs. Assumes nothing.
use Rattle.std.proofs.Common.{refl}
use Rattle.std.proofs.lemmas.Result.{err_from_is_err_and}
use Rattle.graph.proofs.Accepts.{refusal_ne0, refuses, accepts}
use Rattle.graph_check.proofs.Checked.{check_admitted}
use Rattle.graph_successors.proofs.Firsts.{admitted_indexable}
use Rattle.mark_entry.proofs.Entry.{mark_refused, mark_capacity, output_same}
use Rattle.mark_entry_fast.proofs.First.{first_later, first_marked}
use Rattle.mark_entry_fast.proofs.Counting.{counted_refused, counted_done}
use Rattle.mark_entry_fast.proofs.mark_fast.Goals as goal

pub returns-in_err-check-clause-answers : goal.returns-in_err-check-clause-answers
returns-in_err-check-clause-answers c =
    let p = err_from_is_err_and c.from_residual.result c.from_residual.ensures.1 in
    rw (p.1, p.2) (counted_refused _ _ _ (mark_refused _ _ _ _ c.in_err-check.ensures (refusal_ne0 _)) (refusal_ne0 _))

pub returns-in_err-check-clause-writes : goal.returns-in_err-check-clause-writes
returns-in_err-check-clause-writes c = output_same _ _ _ _ (refuses _ (mark_refused _ _ _ _ c.in_err-check.ensures (refusal_ne0 _)))

pub put_starts-requires : goal.put_starts-requires
put_starts-requires c = admitted_indexable (check_admitted _ _ (accepts c.in_ok-check.ensures))

pub invariant_of-graph-clause-ready : goal.invariant_of-graph-clause-ready
invariant_of-graph-clause-ready c = admitted_indexable (check_admitted _ _ (accepts c.in_ok-check.ensures))

pub invariant_of-graph-2 : goal.invariant_of-graph-2
invariant_of-graph-2 c = record { admitted = check_admitted _ _ (accepts c.in_ok-check.ensures) }

pub returns-in_err-check_later-clause-answers : goal.returns-in_err-check_later-clause-answers
returns-in_err-check_later-clause-answers c =
    let p = err_from_is_err_and c.from_residual-in_err-check_later.result c.from_residual-in_err-check_later.ensures.1 in
    rw (p.1, p.2) (counted_refused _ _ _ (first_later _ _ _ c.in_ok-check.ensures refl c.in_err-check_later.ensures) (refusal_ne0 _))

pub returns-in_err-check_later-clause-writes : goal.returns-in_err-check_later-clause-writes
returns-in_err-check_later-clause-writes c = output_same _ _ _ _ (refuses _ (first_later _ _ _ c.in_ok-check.ensures refl c.in_err-check_later.ensures))

pub mark_rounds-requires : goal.mark_rounds-requires
mark_rounds-requires c = mark_capacity _ _ _ _ (accepts (first_later _ _ c.args.marks.now c.in_ok-check.ensures refl c.in_ok-check_later.ensures))

pub returns-clause-answers : goal.returns-clause-answers
returns-clause-answers c = counted_done _ _ _ (first_later _ _ _ c.in_ok-check.ensures refl c.in_ok-check_later.ensures) refl c.mark_rounds.ensures.tests

pub returns-clause-writes : goal.returns-clause-writes
returns-clause-writes c = first_marked _ _ _ (accepts (first_later _ _ _ c.in_ok-check.ensures refl c.in_ok-check_later.ensures)) c.mark_rounds.ensures.writes
