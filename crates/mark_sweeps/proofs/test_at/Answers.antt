-- No hop of the marked set loses its mark. Assumes nothing.
use Rattle.mark_sweeps.proofs.Sweeping.{tested_off, tested_closes, tested_lost}
use Rattle.mark_sweeps.proofs.test_at.Goals as goal
use Rattle.mark_sweeps.proofs.test_at.Goals.{then-marks-i-eq0-via-then-marks-i-eq0, then-marks-i-eq0-via-else-marks-i-eq0+then-closes_at}

pub returns-then-marks-i-eq0 : goal.returns-then-marks-i-eq0
returns-then-marks-i-eq0 c =
    elim c.then-marks-i-eq0.branch [
      | then-marks-i-eq0-via-then-marks-i-eq0 w ↦ tested_off _ c.requires.marking _ w.if-marks-i-eq0.true
      | then-marks-i-eq0-via-else-marks-i-eq0+then-closes_at w ↦ tested_closes _ c.requires.marking _ w.closes_at.ensures w.if-closes_at.true
    ]

pub returns : goal.returns
returns c = tested_lost _ c.requires.marking c.requires.place c.if-marks-i-eq0.false c.closes_at.ensures c.if-closes_at.false
