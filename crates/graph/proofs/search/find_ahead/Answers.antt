-- `graph::search::find_ahead` meets its contract: what lies below `at` is before the hop. Assumes
-- nothing.
use Rattle.std.proofs.Common.{◌≡◌}
use mathlib.Core.Path.{sym, ◌∙◌}
use native.Mathlib.Omega.{arith}
use native.Mathlib.Nat.{le_refl}
use Rattle.graph.specs.Internal.Sum.{sum_of, Narrow}
use Rattle.graph.proofs.Sums.{sums_met}
use Rattle.graph.proofs.Lookup.{raise, cut, lower_met, sum_bracket, sums_is, find_found, find_end}
use Rattle.graph.proofs.search.find_ahead.Goals as goal

pub loop-at-init : goal.loop-at-init
loop-at-init c = sum_bracket _ _ c.requires.bracket (c.sum_of-sought.ensures.sum, c.sum_of-sought.ensures.narrow)

pub returns-then-not-is_below : goal.returns-then-not-is_below
returns-then-not-is_below c =
    let q : (c.sum_of-sought.result ≡ sum_of c.args.h) × Narrow c.args.h = (c.sum_of-sought.ensures.sum, c.sum_of-sought.ensures.narrow) in
    let s : (c.sum_of-sum.result ≡ sum_of c.hop_at.result) × Narrow c.hop_at.result = (c.sum_of-sum.ensures.sum, c.sum_of-sum.ensures.narrow) in
    let b = c.loop-at.invariant _ q in
    let at = lower_met _ _ (cut _ _ c.requires.ascending _ _ _ b (le_refl _) (omega arith) (sums_met c.hop_at.ensures c.is_below.ensures s q c.if-not-is_below.true)) (le_refl _) in
    c.found_or_gap.ensures ∙ find_found _ _ (sym at) (omega arith) (sums_is _ _ _ c.hop_at.ensures s q)

pub loop-at-preserved : goal.loop-at-preserved
loop-at-preserved c = λ g q.
    raise _ g c.requires.ascending _ _ _ (c.loop-at.invariant g q) (le_refl _) (omega arith)
    (sums_met c.hop_at.ensures c.is_below.ensures (c.sum_of-sum.ensures.sum, c.sum_of-sum.ensures.narrow) q c.if-not-is_below.false)

pub returns : goal.returns
returns c =
    let e : c.args.past ≡ c.loop-at.at = omega arith in
    c.found_or_gap-2.ensures ∙
    rw e (find_end _ _ (sym (lower_met _ _ (c.loop-at.invariant _ (c.sum_of-sought.ensures.sum, c.sum_of-sought.ensures.narrow)) (omega arith))) (omega arith) c.requires.absent)
