-- Each turn tests the hop at its place in the queue, and clears its flag. Assumes nothing.
use Rattle.std.proofs.Common.{◌≡◌, ◌<◌, length, get_or, arith, length-set}
use Rattle.std.proofs.Math.Seq.{take-length}
use Rattle.std.proofs.lemmas.List.{length-map, take_more, take_more_set}
use Rattle.mark_worklist_round.specs.Internal.Round.{SkipsClean}
use Rattle.mark_worklist_round.proofs.Parts.{tested_none, tested_kept, tested_lost, cleared_none, cleared_flag}
use Rattle.mark_worklist_round.proofs.test_again.Goals as goal
use Rattle.mark_worklist_round.proofs.test_again.Goals.{then-not-closes, else-not-closes}

pub loop-i-init : goal.loop-i-init
loop-i-init g c = record {
  capacity = c.told-fallen;
  flags = c.told-flags;
  within = omega arith;
  tested = tested_none _ _;
  cleared = cleared_none _ _ (omega (arith, length-map c.args.flags.now g.G.Flag.raised, c.told-flags, c.args.graph.index.ready.hops_most));
}

pub closes_again-closes-requires : goal.closes_again-closes-requires
unfolding SkipsClean
closes_again-closes-requires g c =
    let e = c.from-in-loop-i.ensures in
    (omega arith, (rw e (c.requires.places c.loop-i.i-index 0 c.loop-i-test.true), rw e (c.requires.clean c.loop-i.i-index 0 c.loop-i-test.true)))

pub loop-i-preserved : goal.loop-i-preserved
loop-i-preserved g c =
    let v = c.loop-i.invariant in
    let e = rw c.from-in-loop-i.ensures at c.closes_again-closes.ensures in
    let more = take_more c.args.queue.now c.loop-i.i-index 0 c.loop-i-test.true in
    let inside = c.requires.places c.loop-i.i-index 0 c.loop-i-test.true in
    let fits : c.loop-i.lost < length c.loop-i.fallen = omega (arith, v.within, v.capacity, c.requires.most, c.loop-i-test.true) in
    let cleared = cleared_flag _ _ _ g.G.Flag.raised c.args.flags.now c.loop-i.flags v.cleared inside c.of.ensures in
    elim c.if-not-closes.branch [
      | then-not-closes w ↦ rw (w.fallen-is, w.lost-is) (record {
        capacity = simp length-set v.capacity;
        flags = simp length-set v.flags;
        within = omega (arith, v.within);
        tested =
            rw (more, take_more_set c.loop-i.fallen c.loop-i.lost (get_or c.args.queue.now c.loop-i.i-index 0) fits)
            (tested_lost _ _ _ _ v.tested (rw w.if-not-closes.true at e));
        cleared = rw (more, c.from.ensures) cleared;
      })
      | else-not-closes w ↦ rw (w.fallen-is, w.lost-is) (record {
        capacity = v.capacity;
        flags = simp length-set v.flags;
        within = omega (arith, v.within);
        tested = rw more (tested_kept _ _ _ _ v.tested (rw w.if-not-closes.false at e));
        cleared = rw (more, c.from.ensures) cleared;
      })
    ]

pub returns-clause-tested : goal.returns-clause-tested
returns-clause-tested g c =
    let e : c.loop-i.i-index ≡ length c.args.queue.now = omega arith in
    rw (e, take-length) at c.loop-i.invariant.tested

pub returns-clause-cleared : goal.returns-clause-cleared
returns-clause-cleared g c =
    let e : c.loop-i.i-index ≡ length c.args.queue.now = omega arith in
    rw (e, take-length) at c.loop-i.invariant.cleared
