-- The hops passed so far rise, and the sum that is kept is that of the last of them. Assumes
-- nothing.
use Rattle.std.proofs.Common.{ap, not}
use native.Mathlib.Omega.{arith}
use Rattle.graph_check.proofs.Ascending.{sum_at, begins, goes_on, falls, ends}
use Rattle.graph_check.proofs.Placed.{place_some, place_none}
use Rattle.graph_check.proofs.first_not_ascending.Goals as goal

pub loop-i-init : goal.loop-i-init
loop-i-init c = begins _ (sum_at _ 0 c.hop_at.ensures (c.sum_of-last.ensures.sum, c.sum_of-last.ensures.narrow))

pub returns-then-not-is_below : goal.returns-then-not-is_below
returns-then-not-is_below c =
    place_some (omega arith)
    (falls _ _ c.loop-i.invariant (sum_at _ _ c.hop_at-in-loop-i.ensures (c.sum_of-sum.ensures.sum, c.sum_of-sum.ensures.narrow)) c.is_below.ensures (omega arith) (ap not c.if-not-is_below.true))

pub loop-i-preserved : goal.loop-i-preserved
loop-i-preserved c =
    goes_on _ _ c.loop-i.invariant (sum_at _ _ c.hop_at-in-loop-i.ensures (c.sum_of-sum.ensures.sum, c.sum_of-sum.ensures.narrow)) c.is_below.ensures (ap not c.if-not-is_below.false)

pub returns : goal.returns
returns c = place_none (omega (arith, ends _ {i = c.loop-i.i} c.hop_count-n.ensures (omega arith) (omega arith) c.loop-i.invariant))
