-- `audit_faults::images::image_at` meets its contract: the search finds the hop or does not, as in
-- the definition. Assumes nothing.
use Rattle.std.proofs.Common.{arith, sym, ap, ◌∙◌}
use Rattle.graph.proofs.Lookup.{at_place}
use Rattle.graph.specs.Internal.Search.{placed}
use Rattle.audit_faults.specs.Internal.Images.{place_of, image_of}
use Rattle.audit_faults.proofs.images.image_at.Goals as goal

pub overflow_cast-result : goal.overflow_cast-result
overflow_cast-result c =
    omega (arith, c.args.mapped.auditable.ready.hops_most, (at_place c.args.mapped.hops2.now c.hop.result (sym c.in-Ok.ensures)).0)

pub returns-in-Ok : goal.returns-in-Ok
unfolding image_of
returns-in-Ok c = ap place_of (c.in-Ok.ensures ∙ ap (placed c.args.mapped.hops2.now) c.hop.ensures.maps)

pub returns-in-Err : goal.returns-in-Err
unfolding image_of
returns-in-Err c = ap place_of (c.in-Err.ensures ∙ ap (placed c.args.mapped.hops2.now) c.hop.ensures.maps)
