-- The silent hops passed are listed. Assumes nothing.
use Rattle.std.proofs.Common.{◌≡◌, ◌≤◌, length, take}
use Rattle.graph.specs.Answers.{most_hops}
use Rattle.mark_worklist.specs.Tests.{tested_in}
use Rattle.mark_worklist_round.specs.Internal.Round.{Enumerates}
use Rattle.mark_worklist_round.proofs.list_silent.Given as goal

abbrev pub invariant-loop-i : goal.invariant-loop-i
invariant-loop-i l =
    record {
      capacity : length l.queue ≡ most_hops;
      within : l.n ≤ l.i;
      listed : Enumerates l.i (tested_in l.hops 0) (take l.n l.queue);
    }
