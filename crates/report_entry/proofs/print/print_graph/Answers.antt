-- Of a graph that is admitted only row 5 is left to ask.
use Rattle.std.proofs.Common.{refl}
use Rattle.std.proofs.lemmas.Result.{err_from_is_err_and}
use Rattle.graph.proofs.Accepts.{refusal_ne0}
use Rattle.graph_successors.proofs.Firsts.{admitted_indexable}
use Rattle.report_text.proofs.Puts.{written_same}
use Rattle.report_entry.proofs.Printed.{graph_refused, graph_reducible, graph_accepted}
use Rattle.report_entry.proofs.print.print_graph.Goals as goal

pub put_starts-requires : goal.put_starts-requires
put_starts-requires c = admitted_indexable c.requires.admitted

pub invariant_of-index-clause-ready : goal.invariant_of-index-clause-ready
invariant_of-index-clause-ready c = admitted_indexable c.requires.admitted

pub returns-in_err-check_rings : goal.returns-in_err-check_rings
returns-in_err-check_rings c =
    let p = err_from_is_err_and c.from_residual.result c.from_residual.ensures.1 in
    rw (p.1, p.2) (graph_refused c.requires.admitted c.in_err-check_rings.ensures (refusal_ne0 _), refl)

pub print_reduced-requires-clause-reducible : goal.print_reduced-requires-clause-reducible
print_reduced-requires-clause-reducible c = graph_reducible c.requires.admitted c.in_ok-check_rings.ensures refl

pub returns : goal.returns
returns c = written_same (graph_accepted c.requires.admitted c.in_ok-check_rings.ensures refl) c.print_reduced.ensures
