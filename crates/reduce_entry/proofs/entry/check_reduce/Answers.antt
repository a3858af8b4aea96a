-- `reduce_entry::entry::check_reduce` meets its contract: rows 1 to 4 speak, or the later ones do.
-- Assumes nothing.
use Rattle.std.proofs.lemmas.Result.{err_from_is_err_and}
use Rattle.std.proofs.Common.{refl}
use Rattle.graph.proofs.Accepts.{refusal_ne0, accepts}
use Rattle.graph_check.proofs.Checked.{check_admitted}
use Rattle.graph_successors.proofs.Firsts.{admitted_indexable}
use Rattle.reduce_entry.proofs.Answering.{answer_checked, answer_later}
use Rattle.reduce_entry.proofs.entry.check_reduce.Goals as goal

pub returns-in_err-check-clause-answers : goal.returns-in_err-check-clause-answers
returns-in_err-check-clause-answers c =
    let p = err_from_is_err_and c.from_residual.result c.from_residual.ensures.1 in
    rw (p.1, p.2) (answer_checked _ _ _ _ _ c.in_err-check.ensures (refusal_ne0 _))

pub put_starts-requires : goal.put_starts-requires
put_starts-requires c = admitted_indexable (check_admitted _ _ (accepts c.in_ok-check.ensures))

pub invariant_of-graph-clause-ready : goal.invariant_of-graph-clause-ready
invariant_of-graph-clause-ready c = admitted_indexable (check_admitted _ _ (accepts c.in_ok-check.ensures))

pub invariant_of-graph-2 : goal.invariant_of-graph-2
invariant_of-graph-2 c = record { admitted = check_admitted _ _ (accepts c.in_ok-check.ensures) }

pub returns-clause-answers : goal.returns-clause-answers
returns-clause-answers c = answer_later _ _ _ _ _ c.in_ok-check.ensures refl c.check_later.ensures.answers
