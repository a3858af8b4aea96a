-- The hops passed are tested. Assumes nothing.
use Rattle.std.proofs.Common.{◌≡◌, ◌≤◌, length, take}
use Rattle.graph.specs.Answers.{most_hops}
use Rattle.mark_worklist_round.specs.Internal.Round.{Tested}
use Rattle.mark_worklist_round.proofs.test_first.Given as goal

abbrev pub invariant-loop-i : goal.invariant-loop-i
invariant-loop-i l =
    record {
      capacity : length l.fallen ≡ most_hops;
      within : l.lost ≤ l.i-index;
      tested : Tested l.graph.index.hops.now l.graph.marks.now (take l.i-index l.queue) (take l.lost l.fallen);
    }
