-- The marks of the hops passed are taken. Assumes nothing.
use Rattle.std.proofs.Common.{take}
use Rattle.mark_worklist_round.specs.Internal.Round.{Unmarked}
use Rattle.mark_worklist_round.proofs.unmark_fallen.Given as goal

abbrev pub invariant-loop-p : goal.invariant-loop-p
invariant-loop-p l = Unmarked l.initial.marks (take l.p-index l.fallen) l.marks
