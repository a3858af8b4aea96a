-- s2 leads to no end passed.
use Rattle.mark_diamond_search.proofs.Ends.{Passed}
use Rattle.mark_diamond_search.proofs.ends_answer.Given as goal

abbrev pub invariant-loop-i : goal.invariant-loop-i
invariant-loop-i l = Passed l.index.hops.now l.graph.marks.now l.s2.0 l.a.0 l.fn.s3.0 l.i-end l.i
