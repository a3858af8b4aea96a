-- A sweep that takes no mark leaves a confluent set. Assumes nothing.
use Rattle.std.proofs.Common.{◌∙◌, arith}
use Rattle.mark_removal.proofs.Fixpoint.{swept_rests}
use Rattle.mark_sweeps.proofs.Sweeping.{rested_marks}
use Rattle.mark_sweeps.proofs.sweep_to_fixpoint.Goals as goal

pub returns : goal.returns
returns c =
    let s = c.sweep.ensures in
    rested_marks _ c.args.index.ready.ascending s.marking (swept_rests s (omega arith)) _ (s.beyond ∙ c.loop.invariant.beyond)
