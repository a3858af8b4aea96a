-- Each way out is a case of the definition. Assumes nothing.
use Rattle.std.proofs.Common.{refl, sym, ◌∙◌}
use Rattle.std.proofs.lemmas.Result.{err_from_is_err_and}
use native.Mathlib.Omega.{arith}
use borrow.Author.Tests.{eqb-true, eqb-false}
use Rattle.graph.proofs.Accepts.{refusal_ne0}
use Rattle.file_write.proofs.Given.{graph_refused, graph_labels, graph_bare, graph_named}
use Rattle.file_write.proofs.writing.check_given.Goals as goal

pub returns-in_err-check : goal.returns-in_err-check
returns-in_err-check c =
    let p = err_from_is_err_and c.from_residual.result c.from_residual.ensures.1 in
    rw (p.1, p.2) (graph_refused _ _ _ c.in_err-check.ensures (refusal_ne0 _))

pub returns-then-is_empty : goal.returns-then-is_empty
returns-then-is_empty c = graph_bare _ _ _ c.in_ok-check.ensures refl (eqb-true _ _ (sym c.is_empty.ensures ∙ c.if-is_empty.true))

pub overflow_sub-labels : goal.overflow_sub-labels
overflow_sub-labels c = omega (arith, graph_labels _ _ c.args.names.now c.in_ok-check.ensures refl)

pub check_block-requires : goal.check_block-requires
check_block-requires c = omega (arith, graph_labels _ _ c.args.names.now c.in_ok-check.ensures refl)

pub returns : goal.returns
returns c = graph_named _ _ _ c.in_ok-check.ensures refl (eqb-false _ _ (sym c.is_empty.ensures ∙ c.if-is_empty.false)) c.check_block.ensures
