-- The hops passed are tested, and their flags cleared. Assumes nothing.
use Rattle.std.proofs.Common.{◌≡◌, ◌≤◌, length, take, map}
use Rattle.graph.specs.Answers.{most_hops}
use Rattle.mark_worklist_round.specs.Internal.Round.{Tested, Cleared}
use Rattle.mark_worklist_round.proofs.test_again.Given as goal

abbrev pub invariant-loop-i : goal.invariant-loop-i
invariant-loop-i g l =
    record {
      capacity : length l.fallen ≡ most_hops;
      flags : length l.flags ≡ most_hops;
      within : l.lost ≤ l.i-index;
      tested : Tested l.graph.index.hops.now l.graph.marks.now (take l.i-index l.queue) (take l.lost l.fallen);
      cleared : Cleared l.graph.index.hops.now (take l.i-index l.queue) (map g.G.Flag.raised l.initial.flags) (map g.G.Flag.raised l.flags);
    }
