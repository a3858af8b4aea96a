-- The silent hops passed so far stand at the end of the order. Assumes nothing.
use Rattle.walk_topological_order.proofs.Rows.{Putting}
use Rattle.walk_topological_order.proofs.put_row.Given as goal

abbrev pub invariant-loop-i : goal.invariant-loop-i
invariant-loop-i l = Putting l.graph.index.hops.now l.fn.v.0 l.fn.sorted l.fn.n l.sorted l.i l.at
