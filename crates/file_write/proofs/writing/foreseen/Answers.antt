-- Each way out is a case of the definition. Assumes nothing.
use Rattle.std.proofs.Common.{refl}
use Rattle.std.proofs.lemmas.Result.{err_from_is_err_and}
use native.Mathlib.Omega.{arith}
use Rattle.graph.proofs.Accepts.{refusal_ne0}
use Rattle.file_write.proofs.Given.{given_speaks, given_few, capacity_speaks, none_speaks, refused_gives, accepted_gives}
use Rattle.file_write.proofs.writing.foreseen.Goals as goal

pub returns-in_err-check_given : goal.returns-in_err-check_given
returns-in_err-check_given c =
    let p = err_from_is_err_and c.from_residual.result c.from_residual.ensures.1 in
    rw (p.1, p.2) (refused_gives _ _ _ _ (given_speaks _ _ _ _ c.in_err-check_given.ensures (refusal_ne0 _)) (refusal_ne0 _))

pub encoded_length-length-requires : goal.encoded_length-length-requires
encoded_length-length-requires c = given_few _ _ _ 0 c.in_ok-check_given.ensures refl

pub returns-then-capacity-length : goal.returns-then-capacity-length
returns-then-capacity-length c =
    refused_gives _ _ _ _ (capacity_speaks _ _ _ _ c.in_ok-check_given.ensures refl c.encoded_length-length.ensures c.if-capacity-length.true)
    (λ z. omega arith)

pub returns : goal.returns
returns c =
    accepted_gives _ _ _ _ (none_speaks _ _ _ _ c.in_ok-check_given.ensures refl c.encoded_length-length.ensures c.if-capacity-length.false)
    c.encoded_length-length.ensures
