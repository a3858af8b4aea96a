-- The states that the fallen hops passed leave are flagged. Assumes nothing.
use Rattle.std.proofs.Common.{◌≡◌, length, take}
use Rattle.graph.specs.Answers.{most_states}
use Rattle.mark_worklist_round.specs.Internal.Round.{DirtyStates}
use Rattle.mark_worklist_round.proofs.dirty_of.Given as goal

abbrev pub invariant-loop-p : goal.invariant-loop-p
invariant-loop-p l =
    record {
      capacity : length l.dirty ≡ most_states;
      flagged : DirtyStates l.hops (take l.p-index l.fallen) l.dirty;
    }
