-- The two ways out are the two cases of the definition. Assumes nothing.
use native.Mathlib.Omega.{arith}
use borrow.Author.Tests.{lt-ltb, le-ltb}
use Rattle.walk_silent.specs.Silent.{ring_answer}
use Rattle.walk_rings.proofs.check_rings.Goals as goal

pub returns-in-Some : goal.returns-in-Some
unfolding ring_answer
returns-in-Some c = let (l, e) = c.in-Some.ensures in rw (e, lt-ltb _ _ l, c.from.ensures)

pub returns-in-None : goal.returns-in-None
unfolding ring_answer
returns-in-None c = let n = c.args.graph.shape.states in rw (c.in-None.ensures, le-ltb n n (omega arith))
