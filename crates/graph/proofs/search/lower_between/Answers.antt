-- `graph::search::lower_between` meets its contract: what lies below lo is before the hop, and what
-- lies from hi on is not. Assumes nothing.
use mathlib.Core.Path.{sym}
use native.Mathlib.Omega.{arith}
use Rattle.graph.proofs.Sums.{sums_met}
use Rattle.graph.proofs.Lookup.{raise, cut, lower_met, sum_bracket}
use Rattle.graph.proofs.search.lower_between.Goals as goal

pub loop-lo-init : goal.loop-lo-init
loop-lo-init c =
    (c.requires.bracket.lo_le, c.requires.bracket.hi_le, sum_bracket _ _ c.requires.bracket (c.sum_of-sought.ensures.sum, c.sum_of-sought.ensures.narrow))

pub loop-lo-preserved-then-is_below : goal.loop-lo-preserved-then-is_below
loop-lo-preserved-then-is_below c = (
  omega arith,
  omega arith,
  λ g q. raise _ g c.requires.ascending _ _ _ (c.loop-lo.invariant.2 g q) (omega arith) (omega arith)
      (sums_met c.hop_at.ensures c.is_below.ensures (c.sum_of.ensures.sum, c.sum_of.ensures.narrow) q c.if-is_below.true),
)

pub loop-lo-preserved : goal.loop-lo-preserved
loop-lo-preserved c = (
  omega arith,
  omega arith,
  λ g q. cut _ g c.requires.ascending _ _ _ (c.loop-lo.invariant.2 g q) (omega arith) (omega arith)
      (sums_met c.hop_at.ensures c.is_below.ensures (c.sum_of.ensures.sum, c.sum_of.ensures.narrow) q c.if-is_below.false),
)

pub returns : goal.returns
returns c = sym (lower_met _ _ (c.loop-lo.invariant.2 _ (c.sum_of-sought.ensures.sum, c.sum_of-sought.ensures.narrow)) c.loop-lo-test.false)
