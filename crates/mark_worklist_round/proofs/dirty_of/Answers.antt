-- The state that a fallen hop leaves is flagged, and all are passed at the end. Assumes nothing.
use Rattle.std.proofs.Common.{◌≡◌, ◌∙◌, length, refl, arith, length-set}
use Rattle.std.proofs.Math.Seq.{take-length}
use Rattle.std.proofs.lemmas.List.{take_more}
use Rattle.mark_worklist_round.proofs.Parts.{dirty_none, dirty_more}
use Rattle.mark_worklist_round.proofs.dirty_of.Goals as goal

pub loop-p-init : goal.loop-p-init
loop-p-init c = record { capacity = refl; flagged = dirty_none _ _ }

pub loop-p-preserved : goal.loop-p-preserved
loop-p-preserved c =
    let b = c.requires.ready.from_in c.from.result (rw c.from.ensures (c.requires.places c.loop-p.p-index 0 c.loop-p-test.true)) in
    let e = c.from-in-loop-p.ensures ∙ c.from_at-s.ensures in
    record {
      capacity = simp length-set c.loop-p.invariant.capacity;
      flagged =
          rw (take_more c.args.fallen.now c.loop-p.p-index 0 c.loop-p-test.true)
          (dirty_more _ _ _ _ c.loop-p.invariant.flagged (rw c.from.ensures at e) (omega (arith, e, b, c.loop-p.invariant.capacity)));
    }

pub returns : goal.returns
returns c =
    let e : c.loop-p.p-index ≡ length c.args.fallen.now = omega arith in
    rw (e, take-length) at c.loop-p.invariant.flagged
