-- The silent hops of s1 that are passed are asked. Assumes nothing.
use Rattle.graph.specs.Hops.{from}
use Rattle.graph.specs.Search.{first_of}
use Rattle.mark_worklist_push.specs.Internal.Queue.{Pushed, Asked}
use Rattle.mark_worklist_push.proofs.Walks.{Walked}
use Rattle.mark_worklist_push.proofs.push_out.Given as goal

abbrev pub invariant-loop-i : goal.invariant-loop-i
invariant-loop-i l =
    Pushed l.graph.index.hops.now l.graph.marks.now
    (Walked (Asked l.graph.index.hops.now l.j l.p) (first_of l.graph.index.hops.now (from l.graph.index.hops.now l.j)) l.i) l.initial.worklist l.worklist
