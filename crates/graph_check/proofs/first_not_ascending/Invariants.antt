-- The hops passed so far rise, and the sum that is kept is that of the last of them.
use Rattle.graph_check.proofs.Ascending.{Risen}
use Rattle.graph_check.proofs.first_not_ascending.Given as goal

abbrev pub invariant-loop-i : goal.invariant-loop-i
invariant-loop-i l = Risen l.hops l.i l.last
