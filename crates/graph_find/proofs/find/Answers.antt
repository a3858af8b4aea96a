-- Check refuses, or the search answers for the hop in 16 bits. Assumes nothing.
use Rattle.std.proofs.lemmas.Result.{err_from_is_err_and}
use Rattle.std.proofs.Common.{refl}
use Rattle.graph.proofs.Accepts.{refusal_ne0}
use Rattle.graph_find.proofs.Ways.{find_refused, find_admitted, find_found}
use Rattle.graph_find.proofs.find.Goals as goal

pub returns-in_err-check : goal.returns-in_err-check
returns-in_err-check c =
    let p = err_from_is_err_and c.from_residual.result c.from_residual.ensures.1 in
    rw (p.1, p.2) (find_refused _ _ c.in_err-check.ensures _ _ _ (refusal_ne0 _))

pub find-requires : goal.find-requires
find-requires c = (find_admitted _ _ c.in_ok-check.ensures refl).ascending

pub returns : goal.returns
returns c =
    find_found _ _ c.in_ok-check.ensures _ _ _ c.saturate.ensures c.saturate-2.ensures c.saturate-3.ensures c.hop_of-sought.ensures _ c.find.ensures
