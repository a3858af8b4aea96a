-- The elements below s are filled, and `at` is where the hops of s begin. Assumes nothing.
use native.Mathlib.Omega.{arith}
use Rattle.graph.proofs.Lookup.{first_within}
use Rattle.graph_successors.specs.Internal.SuccessorIndex.{SuccessorIndex}
use Rattle.graph_successors.proofs.Firsts.{first_is}
use Rattle.graph_successors.proofs.put_starts.Goals as goal

pub loop-s-init : goal.loop-s-init
loop-s-init c = record {
  sized = omega arith;
  here = first_is c.args.hops.now c.requires.ascending 0 (omega arith) (λ j l. absurd (omega arith)) (λ l. omega arith);
  filled = λ t l. absurd (omega arith);
}

pub overflow_cast-starts : goal.overflow_cast-starts
overflow_cast-starts c = omega (arith, first_within c.args.hops.now c.requires.ascending c.loop-s.s, c.requires.hops_most)

pub returns : goal.returns
unfolding SuccessorIndex
returns c = λ t l. c.loop-s.invariant.filled t (omega arith)
