-- After each round the marks are those of the hops that survive it, and the worklist is empty.
-- Marks are lost, or nothing more falls. Assumes nothing.
use Rattle.std.proofs.Common.{◌≡◌, ◌≤◌, ◌+◌, length, take}
use mathlib.Core.Bool.{cond}
use lib.Dec.{ltb}
use Rattle.base_bounded.specs.Quantifiers.{tally}
use Rattle.graph.specs.Hops.{count}
use Rattle.graph.specs.Answers.{most_hops}
use Rattle.mark_confluence.specs.Internal.MarkSet.{is_marked}
use Rattle.mark_worklist_push.specs.Internal.Queue.{Leaving, Queue}
use Rattle.mark_worklist_loop.specs.Internal.BetweenRounds.{AfterSome}
use Rattle.mark_worklist_loop.proofs.later_rounds.Given as goal

abbrev pub invariant-loop-left : goal.invariant-loop-left
invariant-loop-left l =
    record {
      leaving : Leaving l.index.hops.now l.marks l.leaving;
      queue : Queue l.index.hops.now l.worklist;
      empty : l.worklist.len ≡ 0;
      most : l.left ≤ most_hops;
      long : length l.fallen ≡ most_hops;
      after : AfterSome l.index.hops.now l.marks l.initial.marks (take l.left l.fallen) l.sum;
    }

abbrev pub decreases-loop-left : goal.decreases-loop-left
decreases-loop-left l = tally (count l.index.hops.now) (is_marked l.marks) + cond (ltb 0 l.left) 1 0
