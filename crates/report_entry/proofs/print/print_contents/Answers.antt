-- Reading refuses exactly what is refused before a graph is asked.
use Rattle.std.proofs.Common.{ℕ, ◌≤◌, length, arith, replicate, refl, ◌∙◌}
use Rattle.std.proofs.lemmas.List.{length-replicate}
use Rattle.std.proofs.lemmas.Result.{err_from_is_err_and}
use Rattle.graph.specs.Answers.{most_numbers}
use Rattle.graph.proofs.Accepts.{refusal_ne0}
use Rattle.report_entry.proofs.Printed.{file_refused, file_most, file_admitted, file_printed, input_refused, input_taken}
use Rattle.report_entry.proofs.print.print_contents.Goals as goal

wide : most_numbers ≤ length (replicate {A = ℕ} most_numbers 0)
wide = omega (arith, length-replicate {A = ℕ} most_numbers 0)

pub returns-then-file-gt-MOST_INPUT : goal.returns-then-file-gt-MOST_INPUT
returns-then-file-gt-MOST_INPUT c = (input_refused _ c.if-file-gt-MOST_INPUT.true, refl)

pub returns-in_err-contents : goal.returns-in_err-contents
returns-in_err-contents c =
    let p = err_from_is_err_and c.from_residual.result c.from_residual.ensures.1 in
    rw (p.1, p.2)
    (file_refused _ (replicate most_numbers 0) wide c.in_err-contents.ensures.answers (refusal_ne0 _) ∙ input_taken _ c.if-file-gt-MOST_INPUT.false, refl)

pub part-requires-clause-within : goal.part-requires-clause-within
part-requires-clause-within c = omega (arith, file_most _ (replicate most_numbers 0) wide c.in_ok-contents.ensures.answers refl)

pub print_graph-requires-clause-admitted : goal.print_graph-requires-clause-admitted
print_graph-requires-clause-admitted c =
    let r = c.in_ok-contents.ensures in
    file_admitted _ (replicate most_numbers 0) wide r.answers refl r.writes c.part.ensures.shows

pub returns : goal.returns
returns c =
    let r = c.in_ok-contents.ensures in
    rw (file_printed _ (replicate most_numbers 0) wide r.answers refl r.writes c.part.ensures.shows ∙ input_taken _ c.if-file-gt-MOST_INPUT.false)
    at c.print_graph.ensures
