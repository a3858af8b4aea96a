-- The hops into s3 that are passed are tried. Assumes nothing.
use Rattle.std.proofs.Common.{take}
use Rattle.mark_worklist_push.specs.Internal.Queue.{Pushed, Trying}
use Rattle.mark_worklist_push.proofs.Walks.{Over}
use Rattle.mark_worklist_next.proofs.push_fallen.Given as goal

abbrev pub invariant-loop-j : goal.invariant-loop-j
invariant-loop-j l =
    Pushed l.round.graph.marked.index.hops.now l.round.graph.marked.marks.now
    (Over (λ j. Trying l.round.graph.marked.index.hops.now j l.p) (take l.j-index l.j-items)) l.initial.worklist l.worklist
