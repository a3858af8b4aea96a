-- The states that the marked hops passed leave are flagged. Assumes nothing.
use Rattle.std.proofs.Common.{ℕ, ◌≡◌, ◌<◌, true, length}
use Rattle.graph.specs.Hops.{from}
use Rattle.graph.specs.Answers.{most_states}
use Rattle.mark_confluence.specs.Internal.MarkSet.{is_marked}
use Rattle.mark_worklist_push.specs.Internal.Queue.{is_set}
use Rattle.mark_worklist_next.proofs.leaving_of.Given as goal

abbrev pub invariant-loop-i : goal.invariant-loop-i
invariant-loop-i l =
    record {
      capacity : length l.leaving ≡ most_states;
      flagged : (j : ℕ) → j < l.i → is_marked l.marks j ≡ true → is_set l.leaving (from l.hops j) ≡ true;
    }
