-- A refusal writes nothing, and acceptance says that the output is long enough and that all lies
-- within the file. Assumes nothing.
use Rattle.std.proofs.Common.{◌∙◌}
use Rattle.std.proofs.lemmas.Result.{err_from_is_err_and}
use native.Mathlib.Omega.{arith}
use Rattle.graph.proofs.Accepts.{refusal_ne0, accepts}
use Rattle.file_read.proofs.Entry.{read_accepts, hops_taken, refused_gives, accepted_gives}
use Rattle.file_read.proofs.reading.read.Goals as goal

pub returns-in_err-exact-clause-answers : goal.returns-in_err-exact-clause-answers
returns-in_err-exact-clause-answers c =
    let p = err_from_is_err_and c.from_residual.result c.from_residual.ensures.1 in
    rw (p.1, p.2) (refused_gives _ _ c.in_err-exact.ensures.answers (refusal_ne0 _)).0

pub returns-in_err-exact-clause-writes : goal.returns-in_err-exact-clause-writes
returns-in_err-exact-clause-writes c = (refused_gives _ _ c.in_err-exact.ensures.answers (refusal_ne0 _)).1

pub take-requires : goal.take-requires
take-requires c =
    let hops = rw c.in_ok-exact.ensures.same at c.hop_field-field.ensures.hops in
    omega (arith, (read_accepts _ _ (accepts c.in_ok-exact.ensures.answers)).1, hops)

pub returns-clause-answers : goal.returns-clause-answers
returns-clause-answers c =
    let hops = rw c.in_ok-exact.ensures.same at c.hop_field-field.ensures.hops in
    let length = rw c.in_ok-exact.ensures.same at c.block_length.ensures in
    rw (c.shape_in.ensures, hops, c.block_place.ensures, length) (accepted_gives _ _ c.in_ok-exact.ensures.answers).0

pub returns-clause-writes : goal.returns-clause-writes
returns-clause-writes c =
    let f = rw c.in_ok-exact.ensures.same at c.hop_field-field.ensures in
    hops_taken _ f.at f.lines f.hops _ _ (rw f.file at c.take.ensures) ∙ (accepted_gives _ _ c.in_ok-exact.ensures.answers).1
