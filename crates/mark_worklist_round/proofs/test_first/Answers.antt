-- Each turn tests the hop at its place in the queue, and all are passed at the end. Assumes
-- nothing.
use Rattle.std.proofs.Common.{◌≡◌, ◌<◌, length, get_or, arith, length-set}
use Rattle.std.proofs.Math.Seq.{take-length}
use Rattle.std.proofs.lemmas.List.{take_more, take_more_set}
use Rattle.mark_worklist_round.proofs.Parts.{tested_none, tested_kept, tested_lost}
use Rattle.mark_worklist_round.proofs.test_first.Goals as goal
use Rattle.mark_worklist_round.proofs.test_first.Goals.{then-not-closes, else-not-closes}

pub loop-i-init : goal.loop-i-init
loop-i-init c = record { capacity = c.told-fallen; within = omega arith; tested = tested_none _ _ }

pub loop-i-preserved : goal.loop-i-preserved
loop-i-preserved c =
    let v = c.loop-i.invariant in
    let e = rw c.from.ensures at c.closes_at-closes.ensures in
    let fits : c.loop-i.lost < length c.loop-i.fallen = omega (arith, v.within, v.capacity, c.requires.most, c.loop-i-test.true) in
    elim c.if-not-closes.branch [
      | then-not-closes w ↦ rw (w.fallen-is, w.lost-is) (record {
        capacity = simp length-set v.capacity;
        within = omega (arith, v.within);
        tested =
            rw (take_more c.args.queue.now c.loop-i.i-index 0 c.loop-i-test.true, take_more_set c.loop-i.fallen c.loop-i.lost (get_or c.args.queue.now c.loop-i.i-index 0) fits)
            (tested_lost _ _ _ _ v.tested (rw w.if-not-closes.true at e));
      })
      | else-not-closes w ↦ rw (w.fallen-is, w.lost-is) (record {
        capacity = v.capacity;
        within = omega (arith, v.within);
        tested =
            rw (take_more c.args.queue.now c.loop-i.i-index 0 c.loop-i-test.true)
            (tested_kept _ _ _ _ v.tested (rw w.if-not-closes.false at e));
      })
    ]

pub returns-clause-tested : goal.returns-clause-tested
returns-clause-tested c =
    let e : c.loop-i.i-index ≡ length c.args.queue.now = omega arith in
    rw (e, take-length) at c.loop-i.invariant.tested
