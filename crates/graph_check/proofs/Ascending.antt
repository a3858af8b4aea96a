-- Row 4 by sums: what the pass over the list knows when it comes to a place, where it begins, goes
-- on, finds a hop that is not above the one before, and ends. Assumes nothing.
use Prim.Native.Nat.{ℕ, ◌+◌, ◌-◌, ◌<◌, ◌≤◌}
use mathlib.Core.Path.{◌≡◌, refl, sym, ap, ◌∙◌, subst}
use mathlib.Core.Bool.{Bool, true, false, not}
use mathlib.Core.List.{List}
use native.Mathlib.Omega.{arith}
use borrow.Author.Tests.{ne_eqb}
use lib.Dec.{ltb}
use Rattle.base_bounded.specs.Quantifiers.{least}
use Rattle.graph.specs.Hops.{count, hop_at}
use Rattle.graph.specs.Internal.Sum.{sum_of, Narrow}
use Rattle.graph.specs.declared.Hop.{Hop}
use Rattle.graph_check.specs.Check.{ascends_at, first_not_ascending}
use Rattle.base_bounded.proofs.Quantifiers.{least_none, least_more, least_found, least_done}
use Rattle.graph.proofs.Sums.{sums_before}

module _ (hs : List ℕ) where
  -- a number is the sum of the hop at a place
  pub record SumAt (i sum : ℕ) : Type 0 where
    pub made : (sum ≡ sum_of (hop_at hs i)) × Narrow (hop_at hs i)

  pub sum_at : (i : ℕ) {h : Hop} {sum : ℕ} → h ≡ hop_at hs i → (sum ≡ sum_of h) × Narrow h → SumAt i sum
  sum_at i e q = record { made = rw e at q }

  -- the hops before place i rise, and `last` is the sum of the last of them
  pub record Risen (i last : ℕ) : Type 0 where
    pub some : 1 ≤ i
    pub kept : SumAt (i - 1) last
    pub none_falls : least i (λ (j : ℕ). not (ascends_at hs j)) ≡ i

  pub begins : {last : ℕ} → SumAt 0 last → Risen 1 last
  unfolding ascends_at
  begins s = record { some = omega arith; kept = s; none_falls = least_more _ 0 (least_none _) refl }

  module _ (i : ℕ) {last sum : ℕ} {up : Bool} (r : Risen i last) (s : SumAt i sum) (q : up ≡ ltb last sum) where
    -- the hop at place i is above the one before exactly when its sum is above the one kept
    rises_by : up ≡ ascends_at hs i
    unfolding ascends_at
    rises_by = let some = r.some in rw (ne_eqb i 0 (λ z. omega arith)) (sums_before q r.kept.made s.made)

    pub goes_on : not up ≡ false → Risen (i + 1) sum
    goes_on e = record {
      some = omega arith;
      kept = let q : i ≡ i + 1 - 1 = omega arith in subst (λ (j : ℕ). SumAt j sum) q s;
      none_falls = least_more _ i r.none_falls (ap not (sym rises_by) ∙ e);
    }

    pub falls : i < count hs → not up ≡ true → i ≡ first_not_ascending hs
    unfolding first_not_ascending
    falls l e = sym (least_found _ (count hs) l r.none_falls (ap not (sym rises_by) ∙ e))

  pub ends : {n i last : ℕ} → n ≡ count hs → i ≤ n → n ≤ i → Risen i last → n ≡ first_not_ascending hs
  unfolding first_not_ascending
  ends e l m r = e ∙ sym (least_done _ (omega arith) (omega arith) r.none_falls)
