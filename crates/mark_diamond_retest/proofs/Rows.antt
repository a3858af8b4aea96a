-- The hops of a state from a label on, found by binary search: from where those of the label begin
-- or would begin up to where the next state's begin. And what need not be tried, in the words of
-- the code. Assumes nothing.
use Prim.Native.Nat.{ℕ, ◌+◌, ◌<◌, ◌≤◌}
use mathlib.Core.Path.{◌≡◌, sym, ◌∙◌}
use mathlib.Core.Bool.{Bool, true, false}
use lib.ListN.{get_or}
use mathlib.Core.List.{List}
use mathlib.Core.Logic.{inl, inr, ⊎_elim}
use native.Mathlib.Omega.{arith}
use borrow.Author.Tests.{ltb-false, le-ltb}
use Rattle.graph.specs.Hops.{count, from, label, to, hop_of, hop_at}
use Rattle.graph.specs.Order.{before, Ascending}
use Rattle.graph.specs.Search.{first_of, past_of}
use Rattle.graph.specs.Internal.Search.{labelled_from}
use Rattle.base_bounded.proofs.Bools.{clash, lt_or_le, no_test}
use Rattle.graph.proofs.Ordered.{Below, before_below, below_before}
use Rattle.graph.proofs.Lookup.{lower_law, first_within, range_holds, range_only}
use Rattle.graph_successors.proofs.Rows.{first_labelled}
use Rattle.mark_confluence.specs.Internal.Rounds.{answered}
use Rattle.mark_confluence.specs.Internal.MarkSet.{mark_set}
use Rattle.graph_successors.specs.Internal.Row.{Row}
use Rattle.mark_diamond_retest.specs.Internal.Retest.{CleanAnswered}

-- the hops of s labelled a or more
pub labelled_row : (hs : List ℕ) → Ascending hs → (s a : ℕ) → Row hs s a (labelled_from hs s a) (first_of hs (s + 1))
unfolding labelled_from past_of
labelled_row hs up s a = record { within = first_within hs up (s + 1); own = own; low = low; rest = rest } where
  own : (k : ℕ) → labelled_from hs s a ≤ k → k < first_of hs (s + 1) → from hs k ≡ s
  own k l m = range_only hs up s (omega (arith, first_within hs up (s + 1))) (omega (arith, first_labelled hs up s a)) m

  low : (k : ℕ) → labelled_from hs s a ≤ k → k < first_of hs (s + 1) → a ≤ label hs k
  low k l m =
      let n : k < count hs = omega (arith, first_within hs up (s + 1)) in
      ⊎_elim (λ o. clash (below_before (hop_at hs k) (hop_of s a 0) (inr (own k l m, inl o))) (sym (lower_law hs (hop_of s a 0) up n) ∙ le-ltb _ _ l))
      (λ o. o) (lt_or_le (label hs k) a)

  rest : (k : ℕ) → k < count hs → from hs k ≡ s → a ≤ label hs k → (labelled_from hs s a ≤ k) × (k < first_of hs (s + 1))
  rest k n q m = (
    ltb-false _ _ (lower_law hs (hop_of s a 0) up n ∙ no_test (before (hop_at hs k) (hop_of s a 0)) (λ e. go (before_below (hop_at hs k) (hop_of s a 0) e))),
    (range_holds hs up s n q).1,
  ) where
    go : Below (hop_at hs k) (hop_of s a 0) → ⊥
    go (inl o) = omega arith
    go (inr (d, inl o)) = omega arith
    go (inr (d, inr (f, o))) = omega arith

-- the same in the words of the code: b is the label that was read
pub row_is : (hs : List ℕ) → Ascending hs → (s : ℕ) {a b at past : ℕ} → b ≡ a → at ≡ labelled_from hs s b → past ≡ first_of hs (s + 1) → Row hs s a at past
row_is hs up s {a} q e p = rw (e, p, q) (labelled_row hs up s a)

-- a hop of the state that the one at place i leaves, tried against t, its end: if it leads to a
-- state that is not dirty it is answered
pub clean_at : (hs ms : List ℕ) (sh : List Bool) (i : ℕ) → CleanAnswered hs ms sh i → {j t : ℕ} → j < count hs → from hs j ≡ from hs i → t ≡ to hs i →
    get_or sh (to hs j) false ≡ false → answered hs (mark_set hs ms) t j ≡ true
unfolding CleanAnswered
clean_at hs ms sh i u {j} l f q e = rw q (u j l f e)
