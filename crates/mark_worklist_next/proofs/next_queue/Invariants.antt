-- What the fallen hops passed close is pushed. Assumes nothing.
use Rattle.std.proofs.Common.{take}
use Rattle.mark_worklist_push.specs.Internal.Queue.{Pushed, ClosedByAny}
use Rattle.mark_worklist_next.proofs.next_queue.Given as goal

abbrev pub invariant-loop-p : goal.invariant-loop-p
invariant-loop-p l =
    Pushed l.round.graph.marked.index.hops.now l.round.graph.marked.marks.now
    (ClosedByAny l.round.graph.marked.index.hops.now (take l.p-index l.fallen)) l.initial.worklist l.worklist
