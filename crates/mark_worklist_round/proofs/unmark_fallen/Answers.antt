-- Each turn takes the mark of the hop at its place, and all are passed at the end. Assumes nothing.
use Rattle.std.proofs.Common.{◌≡◌, ◌<◌, length, arith}
use Rattle.std.proofs.Math.Seq.{take-length}
use Rattle.std.proofs.lemmas.List.{take_more}
use Rattle.mark_worklist_round.proofs.Parts.{unmarked_none, unmarked_more}
use Rattle.mark_worklist_round.proofs.unmark_fallen.Goals as goal

pub loop-p-init : goal.loop-p-init
loop-p-init c = unmarked_none _

pub loop-p-preserved : goal.loop-p-preserved
loop-p-preserved c =
    let inside : c.from.result < length c.loop-p.marks = omega (arith, c.from.ensures, c.requires c.loop-p.p-index 0 c.loop-p-test.true) in
    rw (take_more c.args.fallen.now c.loop-p.p-index 0 c.loop-p-test.true, ← c.from.ensures)
    (unmarked_more _ _ c.loop-p.invariant inside)

pub returns : goal.returns
returns c =
    let e : c.loop-p.p-index ≡ length c.args.fallen.now = omega arith in
    rw (e, take-length) at c.loop-p.invariant
