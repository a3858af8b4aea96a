-- The order of hops is a strict total order, so that in an ascending list an earlier place holds an
-- earlier hop. Assumes nothing.
use Prim.Native.Nat.{ℕ, zero, suc, ◌<◌}
use mathlib.Core.Path.{◌≡◌, refl, sym, ◌∙◌, subst, subst⁻¹}
use mathlib.Core.Bool.{true, false, ◌&&◌, ◌||◌}
use mathlib.Core.List.{List}
use mathlib.Core.Logic.{◌⊎◌, inl, inr, ⊎_elim}
use native.Mathlib.Nat.{eq-or-lt_of_le, le_of_suc-le-suc, not-suc-le-zero}
use native.Mathlib.Numerals.{add-one}
use native.Mathlib.Omega.{arith}
use borrow.Author.Tests.{ltb-true, lt-ltb, eqb-true, eq-eqb}
use lib.Dec.{ltb, eqb}
use Rattle.std.proofs.lemmas.Bool.{cases_order, and_from, and_parts, false_from_ne_true, or_cases, or_left, or_right}
use Rattle.graph.specs.Hops.{count, hop_at, Alike}
use Rattle.graph.specs.Order.{before, Ascending}
use Rattle.graph.specs.declared.Hop.{Hop}
use Rattle.base_bounded.proofs.Bools.{clash}

-- the order as a statement
abbrev pub Below : Hop → Hop → Type 0
Below a b =
    (a.from < b.from) ⊎ ((a.from ≡ b.from) × ((a.label < b.label) ⊎ ((a.label ≡ b.label) × (a.to < b.to))))

pub before_below : (a b : Hop) → before a b ≡ true → Below a b
unfolding before
before_below a b e = go (or_cases (ltb a.from b.from) _ e) where
  last : (eqb a.label b.label && ltb a.to b.to) ≡ true → (a.label ≡ b.label) × (a.to < b.to)
  last d = (eqb-true _ _ (and_parts (eqb a.label b.label) _ d).0, ltb-true _ _ (and_parts (eqb a.label b.label) _ d).1)

  labels : (ltb a.label b.label ≡ true) ⊎ ((eqb a.label b.label && ltb a.to b.to) ≡ true) →
      (a.label < b.label) ⊎ ((a.label ≡ b.label) × (a.to < b.to))
  labels (inl d) = inl (ltb-true _ _ d)
  labels (inr d) = inr (last d)

  go : (ltb a.from b.from ≡ true) ⊎
      ((eqb a.from b.from && (ltb a.label b.label || (eqb a.label b.label && ltb a.to b.to))) ≡ true) →
      Below a b
  go (inl d) = inl (ltb-true _ _ d)
  go (inr d) =
      inr (eqb-true _ _ (and_parts (eqb a.from b.from) _ d).0, labels (or_cases (ltb a.label b.label) _ (and_parts (eqb a.from b.from) _ d).1))

pub below_before : (a b : Hop) → Below a b → before a b ≡ true
unfolding before
below_before a b (inl l) = or_left _ _ (lt-ltb _ _ l)
below_before a b (inr (e, inl l)) = or_right (ltb a.from b.from) _ (and_from _ _ (eq-eqb _ _ e) (or_left _ _ (lt-ltb _ _ l)))
below_before a b (inr (e, inr (f, l))) =
    or_right (ltb a.from b.from) _ (and_from _ _ (eq-eqb _ _ e) (or_right (ltb a.label b.label) _ (and_from _ _ (eq-eqb _ _ f) (lt-ltb _ _ l))))

below_trans : (a b c : Hop) → Below a b → Below b c → Below a c
below_trans a b c (inl l) (inl m) = inl (omega arith)
below_trans a b c (inl l) (inr (f, q)) = inl (omega arith)
below_trans a b c (inr (e, p)) (inl m) = inl (omega arith)
below_trans a b c (inr (e, inl l)) (inr (f, inl m)) = inr (e ∙ f, inl (omega arith))
below_trans a b c (inr (e, inl l)) (inr (f, inr (g, m))) = inr (e ∙ f, inl (omega arith))
below_trans a b c (inr (e, inr (d, l))) (inr (f, inl m)) = inr (e ∙ f, inl (omega arith))
below_trans a b c (inr (e, inr (d, l))) (inr (f, inr (g, m))) = inr (e ∙ f, inr (d ∙ g, omega arith))

below_self : (a b : Hop) → Below a b → Below b a → ⊥
below_self a b (inl l) (inl m) = omega arith
below_self a b (inl l) (inr (f, q)) = omega arith
below_self a b (inr (e, p)) (inl m) = omega arith
below_self a b (inr (e, inl l)) (inr (f, inl m)) = omega arith
below_self a b (inr (e, inl l)) (inr (f, inr (g, m))) = omega arith
below_self a b (inr (e, inr (d, l))) (inr (f, inl m)) = omega arith
below_self a b (inr (e, inr (d, l))) (inr (f, inr (g, m))) = omega arith

pub before_trans : (a b c : Hop) → before a b ≡ true → before b c ≡ true → before a c ≡ true
before_trans a b c p q = below_before a c (below_trans a b c (before_below a b p) (before_below b c q))

pub before_not_back : (a b : Hop) → before a b ≡ true → before b a ≡ false
before_not_back a b p = false_from_ne_true (before b a) (λ q. below_self a b (before_below a b p) (before_below b a q))

pub before_itself : (a : Hop) → before a a ≡ false
before_itself a = false_from_ne_true (before a a) (λ q. below_self a a (before_below a a q) (before_below a a q))

-- being alike is an equivalence, and the order does not distinguish hops that are alike
pub alike_itself : (a : Hop) → Alike a a
alike_itself a = record { same_from = refl; same_label = refl; same_to = refl }

pub alike_back : {a b : Hop} → Alike a b → Alike b a
alike_back q = record { same_from = sym q.same_from; same_label = sym q.same_label; same_to = sym q.same_to }

pub alike_then : {a b c : Hop} → Alike a b → Alike b c → Alike a c
alike_then p q = record {
  same_from = p.same_from ∙ q.same_from;
  same_label = p.same_label ∙ q.same_label;
  same_to = p.same_to ∙ q.same_to;
}

pub before_alike : {a a' b b' : Hop} → Alike a a' → Alike b b' → before a b ≡ before a' b'
unfolding before
before_alike p q = rw (p.same_from, p.same_label, p.same_to, q.same_from, q.same_label, q.same_to)

pub alike_not_before : {a b : Hop} → Alike a b → before a b ≡ false
alike_not_before {a} {b} q = before_alike q (alike_itself b) ∙ before_itself b

-- of two hops neither of which is before the other, the numbers are the same
pub before_total : (a b : Hop) → before a b ≡ false → before b a ≡ false → Alike a b
before_total a b p q = froms (cases_order a.from b.from) where
  no : Below a b → Alike a b
  no d = clash (below_before a b d) p

  back : Below b a → Alike a b
  back d = clash (below_before b a d) q

  tos : a.from ≡ b.from → a.label ≡ b.label → (a.to ≡ b.to) ⊎ ((a.to < b.to) ⊎ (b.to < a.to)) → Alike a b
  tos e f (inl g) = record { same_from = e; same_label = f; same_to = g }
  tos e f (inr (inl l)) = no (inr (e, inr (f, l)))
  tos e f (inr (inr l)) = back (inr (sym e, inr (sym f, l)))

  labels : a.from ≡ b.from → (a.label ≡ b.label) ⊎ ((a.label < b.label) ⊎ (b.label < a.label)) → Alike a b
  labels e (inl f) = tos e f (cases_order a.to b.to)
  labels e (inr (inl l)) = no (inr (e, inl l))
  labels e (inr (inr l)) = back (inr (sym e, inl l))

  froms : (a.from ≡ b.from) ⊎ ((a.from < b.from) ⊎ (b.from < a.from)) → Alike a b
  froms (inl e) = labels e (cases_order a.label b.label)
  froms (inr (inl l)) = no (inl l)
  froms (inr (inr l)) = back (inl l)

-- in an ascending list an earlier place holds an earlier hop
module _ (hs : List ℕ) (up : Ascending hs) where
  next : (j : ℕ) → suc j < count hs → before (hop_at hs j) (hop_at hs (suc j)) ≡ true
  unfolding Ascending
  next j l = subst (λ (n : ℕ). before (hop_at hs j) (hop_at hs n) ≡ true) (add-one j) (up j (omega arith))

  pub ascending_lt : (j : ℕ) {i : ℕ} → i < j → j < count hs → before (hop_at hs i) (hop_at hs j) ≡ true
  ascending_lt zero l m = absurd (not-suc-le-zero l)
  ascending_lt (suc j) {i} l m =
      ⊎_elim (λ q. subst⁻¹ (λ (n : ℕ). before (hop_at hs n) (hop_at hs (suc j)) ≡ true) q (next j m))
      (λ k. before_trans (hop_at hs i) (hop_at hs j) (hop_at hs (suc j)) (ascending_lt j k (omega arith)) (next j m))
      (eq-or-lt_of_le (le_of_suc-le-suc l))

  -- a place is determined by its hop
  pub ascending_place : {i j : ℕ} → i < count hs → j < count hs → Alike (hop_at hs i) (hop_at hs j) → i ≡ j
  ascending_place {i} {j} l m e = go (cases_order i j) where
    go : (i ≡ j) ⊎ ((i < j) ⊎ (j < i)) → i ≡ j
    go (inl q) = q
    go (inr (inl k)) = clash (ascending_lt j k m) (alike_not_before e)
    go (inr (inr k)) = clash (ascending_lt i k l) (alike_not_before (alike_back e))
