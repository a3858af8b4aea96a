-- The smallest line of the places that pass is one of theirs, and none is smaller. It is the only
-- such line, so that it does not depend on their order. Assumes nothing.
use Prim.Native.Nat.{ℕ, zero, suc, ◌<◌, ◌≤◌}
use mathlib.Core.Path.{◌≡◌, refl, sym, ◌∙◌}
use mathlib.Core.Bool.{Bool, true, false}
use mathlib.Core.Logic.{◌⊎◌, ⊎_elim}
use native.Mathlib.Nat.{eq-or-lt_of_le, le_of_suc-le-suc, not-suc-le-zero}
use native.Mathlib.Omega.{arith}
use Rattle.std.proofs.lemmas.Bool.{cases_Bool, cases_eq}
use Rattle.std.proofs.lemmas.Bool.Decides.{nat_tests}
use Rattle.base_bounded.proofs.Bools.{clash}
use Rattle.graph.specs.Hops.{Alike}
use Rattle.graph.specs.declared.Hop.{Hop}
use Rattle.reduce_smallest_line.specs.Lines.{lesser_line, merged_hop, Smallest}
use Rattle.reduce_smallest_line.specs.Internal.Lines.{smallest_line}

-- of two lines
pub lesser_none : (b : ℕ) → lesser_line 0 b ≡ b
unfolding lesser_line
lesser_none b = refl

-- what the lesser of two lines is
pub record Lesser (a b l : ℕ) : Type 0 where
  pub which : (l ≡ a) ⊎ (l ≡ b)
  pub first : 0 < a → (0 < l) × (l ≤ a)
  pub second : 0 < b → (0 < l) × (l ≤ b)

pub lesser_is : (a b : ℕ) → Lesser a b (lesser_line a b)
unfolding lesser_line
lesser_is a b = record { which = grind (arith, nat_tests); first = grind (arith, nat_tests); second = grind (arith, nat_tests) }

-- what is kept of two hops is like the first
pub merged_like : (x h : Hop) → Alike (merged_hop x h) x
merged_like x h = record { same_from = refl; same_label = refl; same_to = refl }

module _ (pass : ℕ → Bool) (line : ℕ → ℕ) where
  -- it is what it is to mean
  pub smallest_is : (n : ℕ) → Smallest pass line n (smallest_line pass line n)
  unfolding smallest_line
  smallest_is zero = record { one_of_theirs = λ l. absurd (not-suc-le-zero l); none_smaller = λ i l. absurd (not-suc-le-zero l) }
  smallest_is (suc n) = ⊎_elim (λ e. rw e (taken e (smallest_is n))) (λ e. rw e (skipped e (smallest_is n))) (cases_Bool (pass n)) where
    so_far : ℕ
    so_far = smallest_line pass line n

    which : Lesser so_far (line n) (lesser_line so_far (line n))
    which = lesser_is so_far (line n)

    earlier : Smallest pass line n so_far → {l : ℕ} → 0 < l → l ≡ so_far → (i : ℕ) × (i < suc n) × (pass i ≡ true) × (line i ≡ l)
    earlier before k e = let (i, m, p, q) = before.one_of_theirs (rw e at k) in (i, omega arith, p, q ∙ sym e)

    taken : pass n ≡ true → Smallest pass line n so_far → Smallest pass line (suc n) (lesser_line so_far (line n))
    taken e before = record {
      one_of_theirs = λ k. ⊎_elim (earlier before k) (λ q. (n, omega arith, e, sym q)) which.which;
      none_smaller = λ i l p k. ⊎_elim (λ q. rw q (which.second (rw q at k))) (λ m. let (x, y) = before.none_smaller i m p k in let (u, v) = which.first x in (u, omega arith))
          (eq-or-lt_of_le (le_of_suc-le-suc l));
    }

    skipped : pass n ≡ false → Smallest pass line n so_far → Smallest pass line (suc n) so_far
    skipped e before = record {
      one_of_theirs = λ k. earlier before k refl;
      none_smaller = λ i l p k. ⊎_elim (λ q. clash (rw q at p) e) (λ m. before.none_smaller i m p k) (eq-or-lt_of_le (le_of_suc-le-suc l));
    }

-- it is the only such line: where the places of two lists have the same lines, their smallest lines
-- are the same
module _ {pass pass' : ℕ → Bool} {line line' : ℕ → ℕ} {n n' : ℕ} where
  pub smallest_same : {l l' : ℕ} → Smallest pass line n l → Smallest pass' line' n' l' →
      ((i : ℕ) → i < n → pass i ≡ true → (j : ℕ) × (j < n') × (pass' j ≡ true) × (line' j ≡ line i)) →
      ((j : ℕ) → j < n' → pass' j ≡ true → (i : ℕ) × (i < n) × (pass i ≡ true) × (line i ≡ line' j)) → l ≡ l'
  smallest_same {l} {l'} s t f g = ⊎_elim (λ e. none e) (λ e. some (omega (arith, e))) (cases_eq l 0) where
    -- a line of the second is not below l, if it is not 0
    from_second : 0 < l' → (0 < l) × (l ≤ l')
    from_second k =
        let (j, m, p, q) = t.one_of_theirs k in let (i, u, v, w) = g j m p in let (x, y) = s.none_smaller i u v (omega (arith, k, q, w)) in (x, omega (arith, y, q, w))

    from_first : 0 < l → (0 < l') × (l' ≤ l)
    from_first k =
        let (i, m, p, q) = s.one_of_theirs k in let (j, u, v, w) = f i m p in let (x, y) = t.none_smaller j u v (omega (arith, k, q, w)) in (x, omega (arith, y, q, w))

    none : l ≡ 0 → l ≡ l'
    none e = ⊎_elim (λ d. e ∙ sym d) (λ d. absurd (omega (arith, e, (from_second (omega (arith, d))).0))) (cases_eq l' 0)

    some : 0 < l → l ≡ l'
    some k = let (x, y) = from_first k in omega (arith, y, (from_second x).1)

pub smallest_only : {pass : ℕ → Bool} {line : ℕ → ℕ} {n l l' : ℕ} → Smallest pass line n l → Smallest pass line n l' → l ≡ l'
smallest_only s t = smallest_same s t (λ i m p. (i, m, p, refl)) (λ i m p. (i, m, p, refl))
