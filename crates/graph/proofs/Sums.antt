-- What a hop's sum is for: one sum is below another exactly when its hop comes first by from, label
-- and to, and two are equal exactly when the hops are alike. Both for labels and tos below 65,536,
-- and not without that bound. Assumes nothing.
use Prim.Native.Nat.{ℕ, ◌<◌}
use mathlib.Core.Path.{◌≡◌, refl, sym, ◌∙◌}
use mathlib.Core.Bool.{Bool, true, false}
use mathlib.Core.Logic.{◌⊎◌, inl, inr}
use native.Mathlib.Omega.{arith}
use borrow.Author.Tests.{ltb-true, lt-ltb, le-ltb, eqb-true, eq-eqb}
use lib.Dec.{ltb, eqb}
use Rattle.std.proofs.lemmas.Bool.{cases_Bool}
use Rattle.base_bounded.proofs.Bools.{same_test}
use Rattle.graph.specs.Hops.{hop_of, Alike, same}
use Rattle.graph.specs.Order.{before}
use Rattle.graph.specs.Internal.Sum.{sum_of, Narrow}
use Rattle.graph.specs.declared.Hop.{Hop}
use Rattle.graph.proofs.Places.{same_alike, alike_same}
use Rattle.graph.proofs.Ordered.{Below, before_below, before_total}

-- the sums of hops that come one after the other rise, and those of hops that are alike are equal
sums_rise : (a b : Hop) → Narrow a → Below a b → sum_of a < sum_of b
sums_rise a b n (inl l) = omega arith
sums_rise a b n (inr (e, inl l)) = omega arith
sums_rise a b n (inr (e, inr (f, l))) = omega arith

sums_stay : {a b : Hop} → Alike a b → sum_of a ≡ sum_of b
sums_stay q = rw (q.same_from, q.same_label, q.same_to)

-- one sum is below another exactly when its hop comes first
pub sum_before : (a b : Hop) → Narrow a → Narrow b → ltb (sum_of a) (sum_of b) ≡ before a b
sum_before a b n m =
    same_test (ltb (sum_of a) (sum_of b)) (before a b) (λ e. first (ltb-true _ _ e) (cases_Bool (before a b)) (cases_Bool (before b a)))
    (λ e. lt-ltb _ _ (sums_rise a b n (before_below a b e))) where
      first : sum_of a < sum_of b → (before a b ≡ true) ⊎ (before a b ≡ false) → (before b a ≡ true) ⊎ (before b a ≡ false) → before a b ≡ true
      first l (inl d) q = d
      first l (inr d) (inl q) = absurd (omega (arith, l, sums_rise b a m (before_below b a q)))
      first l (inr d) (inr q) = absurd (omega (arith, l, sums_stay (before_total a b d q)))

-- what a comparison of two sums said, of the hops they were made of
pub sums_before : {a b : Hop} {x : Bool} {m n : ℕ} → x ≡ ltb m n → (m ≡ sum_of a) × Narrow a → (n ≡ sum_of b) × Narrow b → x ≡ before a b
sums_before {a} {b} e (p, v) (q, w) = e ∙ rw (p, q) (sum_before a b v w)

pub sums_met : {a b h : Hop} {x y : Bool} {m n : ℕ} → a ≡ b → x ≡ ltb m n → (m ≡ sum_of a) × Narrow a → (n ≡ sum_of h) × Narrow h → x ≡ y → before b h ≡ y
sums_met e q u v d = rw e at (sym (sums_before q u v) ∙ d)

-- hops whose sums are equal are alike
pub sum_alike : (a b : Hop) → Narrow a → Narrow b → sum_of a ≡ sum_of b → Alike a b
sum_alike a b n m e = before_total a b (sym (sum_before a b n m) ∙ le-ltb (sum_of a) (sum_of b) (omega arith)) (sym (sum_before b a m n) ∙ le-ltb (sum_of b) (sum_of a) (omega arith))

-- two sums are equal exactly when the hops are alike
pub sum_same : (a b : Hop) → Narrow a → Narrow b → eqb (sum_of a) (sum_of b) ≡ same a b
sum_same a b n m =
    same_test (eqb (sum_of a) (sum_of b)) (same a b) (λ e. alike_same (sum_alike a b n m (eqb-true _ _ e))) (λ e. eq-eqb _ _ (sums_stay (same_alike a b e)))

-- what it said that two sums are equal, of the hops they were made of
pub sums_same : {a b : Hop} {m n : ℕ} → (m ≡ sum_of a) × Narrow a → (n ≡ sum_of b) × Narrow b → eqb m n ≡ same a b
sums_same {a} {b} (p, v) (q, w) = rw (p, q) (sum_same a b v w)

-- without the bound it is false: a label of 65,536 passes for the next from
pub wide_label : (before (hop_of 0 65536 0) (hop_of 1 0 0) ≡ true) × (ltb (sum_of (hop_of 0 65536 0)) (sum_of (hop_of 1 0 0)) ≡ false)
unfolding before
wide_label = (refl, refl)
