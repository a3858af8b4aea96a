-- A hop that fails loses its mark, and any other hop keeps what it has. Assumes nothing.
use Rattle.std.proofs.Common.{◌<◌, ◌∙◌, sym, arith}
use Rattle.graph.specs.Hops.{count}
use Rattle.mark_batch_filter.proofs.Filtering.{filtered_fails, filtered_stays, filtered_most}
use Rattle.mark_batch_filter.proofs.filter.Goals as goal
use Rattle.mark_batch_filter.proofs.filter.Goals.{then-fails_at, else-fails_at}

pub overflow_add-lost : goal.overflow_add-lost
overflow_add-lost c = omega (arith, filtered_most _ _ _ _ c.loop-i.invariant)

pub loop-i-preserved : goal.loop-i-preserved
loop-i-preserved c =
    let v = c.loop-i.invariant in
    let l : c.loop-i.i < count c.args.hops.now = omega arith in
    let e = sym c.fails_at.ensures in
    elim c.if-fails_at.branch [
      | then-fails_at w ↦ rw (w.marks-is, w.lost-is) (filtered_fails _ _ _ _ v l c.requires.capacity (e ∙ w.if-fails_at.true))
      | else-fails_at w ↦ rw (w.marks-is, w.lost-is) (filtered_stays _ _ _ _ v l c.requires.capacity (e ∙ w.if-fails_at.false))
    ]
