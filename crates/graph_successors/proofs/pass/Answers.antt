-- Every hop passed is from s or an earlier state. Assumes nothing.
use Rattle.std.proofs.Common.{◌+◌, ap}
use native.Mathlib.Omega.{arith}
use Rattle.graph.specs.declared.Hop.{Hop}
use Rattle.graph_successors.proofs.Firsts.{first_below, first_is}
use Rattle.graph_successors.proofs.pass.Goals as goal

pub loop-i-init : goal.loop-i-init
loop-i-init c = λ j l. omega (arith, first_below c.args.hops.now c.requires.ready.ascending c.args.s {j = j} (omega (arith, l, c.requires.first)))

pub returns-then-from-s : goal.returns-then-from-s
returns-then-from-s c =
    first_is c.args.hops.now c.requires.ready.ascending (c.args.s + 1) (omega arith) c.loop-i.invariant
    (λ l. omega (arith, ap (λ (h : Hop). h.from) c.hop_at.ensures))

pub returns : goal.returns
returns c = first_is c.args.hops.now c.requires.ready.ascending (c.args.s + 1) (omega arith) (λ j l. c.loop-i.invariant j (omega arith)) (λ l. absurd (omega arith))
