-- Each place passed is tested.
use Rattle.mark_confluence.specs.Rounds.{marked}
use Rattle.mark_removal.specs.Internal.Removal.{Swept}
use Rattle.mark_sweeps.specs.Internal.Sweep.{ClosesUpTo}
use Rattle.mark_sweeps.proofs.sweep.Given as goal

abbrev pub invariant-loop-i : goal.invariant-loop-i
invariant-loop-i l = Swept l.index.hops.now (marked l.index.hops.now) (ClosesUpTo l.index.hops.now l.i) l.initial.marks l.marks l.lost
