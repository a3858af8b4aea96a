-- Each way out is a case of the definition. Assumes nothing.
use Rattle.std.proofs.Common.{refl, ap, ◌∙◌}
use Rattle.std.proofs.lemmas.Result.{err_from_is_err_and}
use native.Mathlib.Omega.{arith}
use Rattle.graph.specs.Hops.{number_place}
use Rattle.graph.proofs.Accepts.{refusal_ne0}
use Rattle.file_read.proofs.Entry.{graph_few, format_speaks, graph_speaks, capacity_speaks, none_speaks}
use Rattle.file_read.proofs.reading.check_file.Goals as goal

pub returns-in_err-exact-clause-answers : goal.returns-in_err-exact-clause-answers
returns-in_err-exact-clause-answers c =
    let p = err_from_is_err_and c.from_residual.result c.from_residual.ensures.1 in
    rw (p.1, p.2) (format_speaks _ _ c.in_err-exact.ensures.answers (refusal_ne0 _))

pub returns-in_err-check_hops-clause-answers : goal.returns-in_err-check_hops-clause-answers
returns-in_err-check_hops-clause-answers c =
    let p = err_from_is_err_and c.from_residual-in_err-check_hops.result c.from_residual-in_err-check_hops.ensures.1 in
    let g = rw c.in_ok-exact.ensures.same at c.in_err-check_hops.ensures in
    rw (p.1, p.2) (graph_speaks _ _ c.in_ok-exact.ensures.answers refl g (refusal_ne0 _))

pub number_place-requires : goal.number_place-requires
number_place-requires c =
    let g = rw c.in_ok-exact.ensures.same at c.in_ok-check_hops.ensures in
    omega (arith, c.from.ensures, c.hops_in.ensures, graph_few _ g refl)

pub returns-then-capacity-number_place-clause-answers : goal.returns-then-capacity-number_place-clause-answers
returns-then-capacity-number_place-clause-answers c =
    let g = rw c.in_ok-exact.ensures.same at c.in_ok-check_hops.ensures in
    capacity_speaks _ _ c.in_ok-exact.ensures.answers refl g refl
    (c.number_place.ensures ∙ ap number_place (c.from.ensures ∙ c.hops_in.ensures)) c.if-capacity-number_place.true

pub returns-clause-answers : goal.returns-clause-answers
returns-clause-answers c =
    let g = rw c.in_ok-exact.ensures.same at c.in_ok-check_hops.ensures in
    none_speaks _ _ c.in_ok-exact.ensures.answers refl g refl
    (c.number_place.ensures ∙ ap number_place (c.from.ensures ∙ c.hops_in.ensures)) c.if-capacity-number_place.false
