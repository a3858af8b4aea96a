-- The answer that stands in what is foreseen. Assumes nothing.
use Rattle.std.proofs.Common.{ap, ◌∙◌}
use Rattle.std.proofs.lemmas.Result.{err_from_is_err_and}
use Rattle.file_write.specs.declared.Written.{Written}
use Rattle.file_write.proofs.Given.{gives_answer}
use Rattle.file_write.proofs.writing.check_write.Goals as goal

pub returns-in_err-foreseen : goal.returns-in_err-foreseen
returns-in_err-foreseen c =
    let p = err_from_is_err_and c.from_residual.result c.from_residual.ensures.1 in
    rw (p.1, p.2) (ap (λ (x : Written). x.answer) c.in_err-foreseen.ensures ∙ gives_answer _ _ _ _)

pub returns : goal.returns
returns c = ap (λ (x : Written). x.answer) c.in_ok-foreseen.ensures ∙ gives_answer _ _ _ _
