-- What the reduction left is what the report shows.
use Rattle.std.proofs.Common.{sym, arith, replicate}
use Rattle.graph.specs.Answers.{most_states, most_hops, most_numbers}
use Rattle.graph_successors.proofs.Firsts.{admitted_indexable}
use Rattle.report_text.proofs.Puts.{capacity_same, written_same}
use Rattle.report_entry.proofs.Lengths.{report_most}
use Rattle.report_entry.proofs.Printed.{reduced_most, reduced_lines, text_capacity}
use Rattle.report_entry.proofs.print.print_reduced.Goals as goal

pub invariant_of-index-clause-ready : goal.invariant_of-index-clause-ready
invariant_of-index-clause-ready c = admitted_indexable c.requires.reducible.admitted

pub part-requires-clause-within : goal.part-requires-clause-within
part-requires-clause-within c = omega (arith, reduced_most c.requires.reducible c.reduce_strong-made.ensures.returned)

pub put_report-requires-clause-capacity : goal.put_report-requires-clause-capacity
put_report-requires-clause-capacity c =
    let r = c.reduce_strong-made.ensures in
    capacity_same
    (sym (reduced_lines c.requires.reducible r.returned (replicate most_hops 0) (replicate most_states 0) (replicate most_numbers 0) r.marked r.mapped r.shortened c.part.ensures.shows))
    (text_capacity (report_most c.requires.reducible (λ i. omega (arith, c.type_inv.hops i))) c.requires.capacity)

pub returns : goal.returns
returns c =
    let r = c.reduce_strong-made.ensures in
    written_same
    (reduced_lines c.requires.reducible r.returned (replicate most_hops 0) (replicate most_states 0) (replicate most_numbers 0) r.marked r.mapped r.shortened c.part.ensures.shows)
    c.put_report.ensures
