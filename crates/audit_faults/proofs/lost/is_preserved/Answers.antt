-- `audit_faults::lost::is_preserved` meets its contract: the table says whether graph 2 has the
-- hop, and only where it has not the classes are compared. Assumes nothing.
use Rattle.std.proofs.Common.{◌∙◌, ap}
use Rattle.graph.specs.Map.{mapped}
use Rattle.audit_faults.specs.Internal.Images.{Imaged}
use Rattle.audit_faults.proofs.Preserved.{preserved_image, preserved_no_place}
use Rattle.audit_faults.proofs.lost.is_preserved.Goals as goal

pub returns-then-from-ne-NO_PLACE : goal.returns-then-from-ne-NO_PLACE
unfolding Imaged
returns-then-from-ne-NO_PLACE c =
    preserved_image _ _ _ c.args.located.mapped.auditable.ready c.args.i (c.from.ensures ∙ c.args.located.imaged c.args.i c.requires) c.if-from-ne-NO_PLACE.true

pub returns : goal.returns
unfolding Imaged
returns c =
    let m = c.args.located.mapped in
    let place = c.from.ensures ∙ c.args.located.imaged c.args.i c.requires in
    rw c.eq.ensures
    (preserved_no_place _ _ _ m.auditable.ready c.args.i place c.if-from-ne-NO_PLACE.false c.label_at-a.ensures
    (c.image-r.ensures.maps ∙ ap (mapped m.map.now) c.from_at.ensures) (c.image-q.ensures.maps ∙ ap (mapped m.map.now) c.to_at.ensures))
