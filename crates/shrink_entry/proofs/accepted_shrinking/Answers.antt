-- `shrink_entry::accepted_shrinking` meets its contract: the loop leaves the last stage, and that
-- is returned and written. Assumes nothing.
use Rattle.std.proofs.Common.{sym, ◌∙◌, arith}
use lib.Seq.{length-take-le}
use Rattle.mark_senses.specs.Internal.Numbers.{sense_number}
use Rattle.shrink_entry.proofs.Accepting.{front_hops, returned, mapped, shortened, capacity}
use Rattle.shrink_entry.proofs.accepted_shrinking.Goals as goal

pub slice_bounds-repeat-end-3 : goal.slice_bounds-repeat-end-3
slice_bounds-repeat-end-3 c = sym (length-take-le c.args.shape.states c.args.map.now c.requires.map_capacity)

pub repeat-reached-requires : goal.repeat-reached-requires
repeat-reached-requires c =
    let red = c.requires.reducible in
    let e = front_hops red.admitted _ c.hop_count-n.ensures c.put_front.ensures in
    record {
      reducible = rw e red;
      there = omega (arith, c.hop_count-n.ensures, c.put_front.auto.out, red.admitted.hops_most);
      sized = length-take-le c.args.shape.states c.args.map.now c.requires.map_capacity;
    }

pub put_front-requires-2 : goal.put_front-requires-2
put_front-requires-2 c =
    let red = c.requires.reducible in
    let e = front_hops red.admitted _ c.hop_count-n.ensures c.put_front.ensures in
    let w = c.repeat-reached.ensures in
    capacity (sense_number c.args.sense) c.args.shape c.repeat-reached.result _ _ e w.last w.there c.part.ensures.shows red c.requires.short_capacity

pub returns : goal.returns
returns c =
    let k = sense_number c.args.sense in
    let sh = c.args.shape in
    let e = front_hops c.requires.reducible.admitted _ c.hop_count-n.ensures c.put_front.ensures in
    let r = c.repeat-reached in
    let w = r.ensures in
    let sized = r.auto.map ∙ length-take-le sh.states c.args.map.now c.requires.map_capacity in
    record {
      returned = returned k sh r.result _ _ e w.last w.there;
      mapped = mapped k sh r.result _ _ e w.last w.there c.args.map.now sized;
      shortened = shortened k sh r.result _ _ e w.last w.there c.part.ensures.shows c.args.short.now c.put_front-2.ensures;
    }
