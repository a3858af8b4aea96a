-- The hops into s4 that are passed are asked. Assumes nothing.
use Rattle.std.proofs.Common.{take}
use Rattle.mark_worklist_push.specs.Internal.Queue.{Pushed, Like}
use Rattle.mark_worklist_push.proofs.Walks.{Over}
use Rattle.mark_worklist_push.proofs.push_answers.Given as goal

abbrev pub invariant-loop-k : goal.invariant-loop-k
invariant-loop-k l =
    Pushed l.graph.marked.index.hops.now l.graph.marked.marks.now
    (Over (Like l.graph.marked.index.hops.now l.j) (take l.k-index l.k-items)) l.initial.worklist l.worklist
