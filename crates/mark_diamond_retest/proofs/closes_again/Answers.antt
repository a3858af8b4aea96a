-- The walk over the hops of the start: how it begins, each step, and the ways out. Assumes nothing.
use Rattle.std.proofs.Common.{◌<◌, ◌∙◌, false, length, refl, sym, arith}
use Rattle.std.proofs.lemmas.List.{get_or-map}
use Rattle.mark_diamond.proofs.Rows.{own_start, own_in, own_from, own_next, tried_before, tried_done, tried_fails, tried_next}
use Rattle.mark_diamond_retest.proofs.Rows.{clean_at}
use Rattle.mark_diamond_retest.proofs.closes_again.Goals as goal
use Rattle.mark_diamond_retest.proofs.closes_again.Goals.{else-is_dirty-via-then-is_dirty+else-not-passes, else-is_dirty-via-else-is_dirty}

pub loop-j-init : goal.loop-j-init
loop-j-init g c =
    let up = c.args.graph.index.ready.ascending in
    let end = rw c.from_at-s1.ensures at c.past-j-end.ensures.is_next in
    let j = rw c.from_at-s1.ensures at c.first-j.ensures in
    record { own = own_start _ up _ _ end j; answered = tried_before _ up _ _ _ j }

pub returns-then-not-passes : goal.returns-then-not-passes
returns-then-not-passes g c =
    tried_fails _ c.args.graph.index.ready.ascending _ _ c.loop-j.invariant.own c.loop-j-test.true _ _ c.to_at-s2.ensures c.passes.ensures c.if-not-passes.true

-- the hop at place j is answered: it was tried, or it leads to a state that is not dirty
pub loop-j-preserved : goal.loop-j-preserved
loop-j-preserved g c =
    let up = c.args.graph.index.ready.ascending in
    let o = c.loop-j.invariant.own in
    let f = c.loop-j.invariant.answered in
    let l = c.loop-j-test.true in
    let t = c.to_at-s2.ensures in
    let inside : c.from.result < length c.args.dirty.now = omega (arith, c.told-dirty, c.from.ensures, c.to_at.ensures, c.args.graph.index.ready.to_in _ (own_in _ up _ _ o l)) in
    let flag = get_or-map g.F.Flag.raised c.args.dirty.now c.from.result c.index-dirty-from.result false inside ∙ sym c.is_raised-is_dirty.ensures in
    record {
      own = own_next _ up _ _ o l;
      answered = elim c.else-is_dirty.branch [
        | else-is_dirty-via-then-is_dirty+else-not-passes w ↦ tried_next _ up _ _ o l _ _ t w.passes.ensures w.if-not-passes.false f
        | else-is_dirty-via-else-is_dirty w ↦
            tried_next _ up _ _ o l _ _ t
            (sym
            (clean_at _ _ _ c.args.i c.requires.others (own_in _ up _ _ o l) (own_from _ up _ _ o l) t
            (rw (c.from.ensures ∙ c.to_at.ensures) at (flag ∙ w.if-is_dirty.false))))
            refl f
      ];
    }

pub returns : goal.returns
returns g c = tried_done _ c.args.graph.index.ready.ascending _ _ c.loop-j.invariant.own _ _ (omega arith) c.loop-j.invariant.answered
