-- `shrink_entry::repeat` meets its contract: before each iteration the code is at a stage of the
-- repetition, and at the end at the last stage. Assumes nothing.
use Rattle.std.proofs.Common.{refl, ap, ◌∙◌, arith}
use Rattle.mark_senses.specs.Internal.Numbers.{sense_number}
use Rattle.shrink_compose.specs.Composed.{identity_map}
use Rattle.shrink_entry.proofs.Standing.{first_stands, map_few, map_into, counted, stands_last, next_stands, left_falls}
use Rattle.shrink_entry.proofs.repeat.Goals as goal

pub put_identity-requires : goal.put_identity-requires
put_identity-requires c = omega (arith, c.requires.sized, c.requires.reducible.admitted.states_most)

pub loop-at-init : goal.loop-at-init
loop-at-init c =
    let own = c.put_identity.ensures ∙ ap identity_map c.requires.sized in
    record {
      stands = first_stands (sense_number c.args.sense) c.args.shape c.args.hops.now _ c.args.n c.requires.reducible c.requires.there own;
      hops_length = refl;
      map_length = refl;
    }

pub step-at-requires : goal.step-at-requires
step-at-requires c =
    let k = sense_number c.args.sense in
    let v = c.loop-at.invariant.stands in
    record { reducible = v.staged.reducible; there = v.there; few = map_few k v; into = map_into k v; counted = counted k v }

pub loop-at-smaller : goal.loop-at-smaller
loop-at-smaller c =
    let t = c.step-at.ensures in
    left_falls (sense_number c.args.sense) c.loop-at.invariant.stands _ _ t.more t.stepped t.there c.loop-at-test.true

pub loop-at-preserved : goal.loop-at-preserved
loop-at-preserved c =
    let v = c.loop-at.invariant in
    let t = c.step-at in
    record {
      stands = next_stands (sense_number c.args.sense) v.stands _ _ t.ensures.more t.ensures.stepped t.ensures.there;
      hops_length = t.auto.hops ∙ v.hops_length;
      map_length = t.auto.map ∙ v.map_length;
    }

pub shape_of-hops : goal.shape_of-hops
shape_of-hops c = c.loop-at.invariant.hops_length

pub shape_of-map : goal.shape_of-map
shape_of-map c = c.loop-at.invariant.map_length ∙ c.put_identity.auto.map

pub returns-clause-last : goal.returns-clause-last
returns-clause-last c = stands_last (sense_number c.args.sense) c.loop-at.invariant.stands c.loop-at-test.false

pub returns-clause-there : goal.returns-clause-there
returns-clause-there c = c.loop-at.invariant.stands.there
