-- `shrink_step::step` meets its contract: where nothing is marked the stage stays, else the lists
-- hold the next one. Assumes nothing.
use Rattle.std.proofs.Common.{rules, arith, true}
use Rattle.mark_senses.specs.Internal.Numbers.{sense_number}
use Rattle.reduce_representatives.proofs.Marked.{mark_set_terminating}
use Rattle.reduce_by_marks.proofs.Along.{after_marks}
use Rattle.shrink_step.proofs.Marking.{seen_reducible, seen_some}
use Rattle.shrink_step.proofs.Stepping.{hops_within, hops_fewer, short_capacity, stepped}
use Rattle.shrink_step.proofs.step.Goals as goal

pub reduce_marked-made-requires-clause-terminating :
    goal.reduce_marked-made-requires-clause-terminating
reduce_marked-made-requires-clause-terminating c = mark_set_terminating (seen_reducible c.part-seen.ensures.shows c.requires.reducible) _

pub reduce_marked-made-requires-clause-marks : goal.reduce_marked-made-requires-clause-marks
reduce_marked-made-requires-clause-marks c =
    after_marks _ _ _ _ c.mark_stage.ensures.marked (omega (arith, (seen_reducible c.part-seen.ensures.shows c.requires.reducible).admitted.hops_most))

pub part-requires-clause-within : goal.part-requires-clause-within
part-requires-clause-within c =
    let a = c.args in
    let made = c.reduce_marked-made in
    omega (
      arith,
      hops_within (sense_number a.sense) a.at a.hops.now a.map.now c.part-seen.ensures.shows _ _ c.mark_stage.ensures.marked made.ensures.returned,
      made.auto.short,
      c.requires.reducible.admitted.hops_most,
    )

pub put_front-requires : goal.put_front-requires
put_front-requires c =
    let a = c.args in
    short_capacity (sense_number a.sense) a.at a.hops.now a.map.now c.part-seen.ensures.shows _ _ c.mark_stage.ensures.marked
    c.reduce_marked-made.ensures.returned _ c.reduce_marked-made.ensures.shortened c.part.ensures.shows c.requires.there

pub returns-clause-stepped : goal.returns-clause-stepped
returns-clause-stepped c =
    let a = c.args in
    let made = c.reduce_marked-made in
    let some = seen_some (sense_number a.sense) a.at.shape c.part-seen.ensures.shows {x = true} c.mark_stage.ensures.some (search rules) in
    let next = stepped (sense_number a.sense) a.at a.hops.now a.map.now c.part-seen.ensures.shows _ _ c.mark_stage.ensures.marked
    made.ensures.returned _ made.ensures.shortened _ made.ensures.mapped c.part.ensures.shows c.put_front.ensures c.put_composed.ensures in
    rw (← some) next

pub returns-clause-there : goal.returns-clause-there
returns-clause-there c =
    let a = c.args in
    omega (
      arith,
      hops_fewer (sense_number a.sense) a.at a.hops.now a.map.now c.part-seen.ensures.shows _ _ c.mark_stage.ensures.marked c.reduce_marked-made.ensures.returned
          c.requires.there,
      c.put_front.auto.out,
      c.requires.there,
    )
