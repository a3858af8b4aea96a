-- The state that a marked hop leaves is flagged. Assumes nothing.
use Rattle.std.proofs.Common.{arith, ◌∙◌, length-set}
use Rattle.mark_worklist_push.specs.Internal.Queue.{Leaving}
use Rattle.mark_worklist_push.proofs.Pushing.{leaving_more, leaving_skip}
use Rattle.mark_worklist_next.proofs.leaving_of.Goals as goal
use Rattle.mark_worklist_next.proofs.leaving_of.Goals.{then-marks-i-eq1, else-marks-i-eq1}

pub loop-i-preserved : goal.loop-i-preserved
loop-i-preserved c =
    let v = c.loop-i.invariant in
    elim c.if-marks-i-eq1.branch [
      | then-marks-i-eq1 w ↦
          let b = c.requires.ready.from_in c.loop-i.i (omega arith) in
          rw w.leaving-is (record {
            capacity = simp length-set v.capacity;
            flagged = leaving_more c.args.hops.now c.args.marks.now c.loop-i.leaving v.flagged (w.from.ensures ∙ w.from_at.ensures) (omega (arith, w.from.ensures, w.from_at.ensures));
          })
      | else-marks-i-eq1 w ↦
          rw w.leaving-is (record { capacity = v.capacity; flagged = leaving_skip c.args.hops.now c.args.marks.now c.loop-i.leaving v.flagged w.if-marks-i-eq1.false })
    ]

pub returns : goal.returns
unfolding Leaving
returns c = λ j l. c.loop-i.invariant.flagged j (omega arith)
