-- The table says where the first hop of each state from place i on leads.
use Rattle.std.proofs.Common.{◌≡◌, ◌<◌, ℕ, length, get_or}
use Rattle.graph.specs.Answers.{most_states}
use Rattle.mark_confluence.specs.Internal.MarkSet.{mark_set}
use Rattle.reduce_representatives.proofs.Nexts.{Ends}
use Rattle.reduce_representatives.proofs.follow.next_states.Given as goal

abbrev pub invariant-loop-i : goal.invariant-loop-i
invariant-loop-i l =
    record { long : length l.next ≡ most_states; ends : (s : ℕ) → s < most_states → Ends l.hops (mark_set l.hops l.marks) s l.i (get_or l.next s 0) }
