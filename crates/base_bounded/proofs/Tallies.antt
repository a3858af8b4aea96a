-- How many numbers pass below a bound that grows: one more behind each that passes, so each number
-- below the count is reached; and how many pass one of two tests. Assumes nothing.
use Prim.Native.Nat.{ℕ, zero, suc, ◌+◌, ◌<◌, ◌≤◌}
use mathlib.Core.Path.{◌≡◌, refl, ◌∙◌}
use mathlib.Core.Bool.{Bool, true, false, cond}
use mathlib.Core.Logic.{◌⊎◌, inl, inr, ⊎_elim}
use native.Mathlib.Nat.{eq-or-lt_of_le, le_of_suc-le-suc, not-suc-le-zero, le_refl}
use native.Mathlib.Omega.{arith}
use borrow.Author.Tests.{lt-ltb, le-ltb, eq-eqb, ne_eqb}
use lib.Dec.{ltb, eqb}
use Rattle.std.proofs.lemmas.Bool.{cases_eq, cases_lt}
use Rattle.base_bounded.specs.Quantifiers.{tally}
use Rattle.base_bounded.proofs.Bools.{clash}
use Rattle.base_bounded.proofs.Quantifiers.{tally_more, tally_same}

module _ (p : ℕ → Bool) where
  tally_up : (n : ℕ) {i : ℕ} → i ≤ n → tally i p ≤ tally n p
  unfolding tally
  tally_up zero {i} l = let q : i ≡ 0 = omega arith in rw q (le_refl 0)
  tally_up (suc n) {i} l =
      ⊎_elim (λ q. rw q (le_refl (cond (p n) 1 0 + tally n p))) (λ m. omega (arith, tally_up n {i = i} (le_of_suc-le-suc m)))
      (eq-or-lt_of_le l)

  -- all of them, where each passes
  pub tally_full : (n : ℕ) → ((j : ℕ) → j < n → p j ≡ true) → tally n p ≡ n
  unfolding tally
  tally_full zero f = refl
  tally_full (suc n) f = let h : tally n p ≡ n = tally_full n (λ j l. f j (omega arith)) in rw (f n (omega arith)) (omega arith)

  -- none passes from lo on
  pub tally_rest : (n : ℕ) {lo : ℕ} → lo ≤ n → ((j : ℕ) → lo ≤ j → j < n → p j ≡ false) → tally n p ≡ tally lo p
  unfolding tally
  tally_rest zero {lo} l f = let q : lo ≡ 0 = omega arith in rw q
  tally_rest (suc n) {lo} l f =
      ⊎_elim (λ q. rw q) (λ m. further (f n (omega arith) (le_refl (suc n))) (tally_rest n (omega arith) (λ j a b. f j a (omega arith))))
      (eq-or-lt_of_le l) where
        further : p n ≡ false → tally n p ≡ tally lo p → cond (p n) 1 0 + tally n p ≡ tally lo p
        further e h = rw e (omega arith)

  -- behind a number that passes there is one more
  pub tally_past : (n : ℕ) {i : ℕ} → i < n → p i ≡ true → tally i p < tally n p
  tally_past n {i} l e = omega (arith, tally_more p i refl e, tally_up n {i = i + 1} (omega arith))

  -- each number below the count is the count before one that passes
  pub tally_at : (n : ℕ) {m : ℕ} → m < tally n p → (j : ℕ) × (j < n) × (p j ≡ true) × (tally j p ≡ m)
  unfolding tally
  tally_at zero l = absurd (not-suc-le-zero l)
  tally_at (suc n) {m} l = go (p n) refl (λ h. tally_at n h) l where
    deeper : ((j : ℕ) × (j < n) × (p j ≡ true) × (tally j p ≡ m)) → (j : ℕ) × (j < suc n) × (p j ≡ true) × (tally j p ≡ m)
    deeper (j, h, e, q) = (j, omega arith, e, q)

    go : (x : Bool) → p n ≡ x → (m < tally n p → (j : ℕ) × (j < n) × (p j ≡ true) × (tally j p ≡ m)) → m < cond x 1 0 + tally n p →
        (j : ℕ) × (j < suc n) × (p j ≡ true) × (tally j p ≡ m)
    go true d ih l = ⊎_elim (λ h. deeper (ih h)) (λ h. (n, le_refl (suc n), d, omega arith)) (cases_lt m (tally n p))
    go false d ih l = deeper (ih (omega arith))

-- of the numbers below n, m come before m
pub tally_below : (n : ℕ) {m : ℕ} → m ≤ n → tally n (λ (j : ℕ). ltb j m) ≡ m
tally_below n {m} l =
    tally_rest (λ (j : ℕ). ltb j m) n l (λ j a b. le-ltb j m a) ∙ tally_full (λ (j : ℕ). ltb j m) m (λ j h. lt-ltb j m h)

-- up to s are those below s and s itself
pub tally_upto : (f : ℕ → ℕ) (s n : ℕ) →
    tally n (λ (j : ℕ). ltb (f j) (s + 1)) ≡ tally n (λ (j : ℕ). ltb (f j) s) + tally n (λ (j : ℕ). eqb (f j) s)
unfolding tally
tally_upto f s zero = refl
tally_upto f s (suc n) = go (tally_upto f s n) (cases_lt (f n) s) (cases_eq (f n) s) where
  go : tally n (λ (j : ℕ). ltb (f j) (s + 1)) ≡ tally n (λ (j : ℕ). ltb (f j) s) + tally n (λ (j : ℕ). eqb (f j) s) →
      (f n < s) ⊎ (s ≤ f n) → (f n ≡ s) ⊎ (f n ≡ s → ⊥) →
      cond (ltb (f n) (s + 1)) 1 0 + tally n (λ (j : ℕ). ltb (f j) (s + 1)) ≡
      (cond (ltb (f n) s) 1 0 + tally n (λ (j : ℕ). ltb (f j) s)) + (cond (eqb (f n) s) 1 0 + tally n (λ (j : ℕ). eqb (f j) s))
  go h (inl l) e = rw (lt-ltb (f n) (s + 1) (omega arith), lt-ltb (f n) s l, ne_eqb (f n) s (λ q. omega arith)) (omega arith)
  go h (inr l) (inl e) = rw (lt-ltb (f n) (s + 1) (omega arith), le-ltb (f n) s l, eq-eqb (f n) s e) (omega arith)
  go h (inr l) (inr e) =
      ⊎_elim (λ m. absurd (e (omega arith)))
      (λ m. rw (le-ltb (f n) (s + 1) m, le-ltb (f n) s l, ne_eqb (f n) s e) (omega arith))
      (cases_lt (f n) (s + 1))

-- one more passes q than p
pub tally_one : (p q : ℕ → Bool) (n : ℕ) {i : ℕ} → i < n → p i ≡ false → q i ≡ true → ((j : ℕ) → (j ≡ i → ⊥) → q j ≡ p j) → tally n p + 1 ≡ tally n q
unfolding tally
tally_one p q zero l a b f = absurd (not-suc-le-zero l)
tally_one p q (suc n) {i} l a b f = go (λ m. tally_one p q n m a b f) (eq-or-lt_of_le (le_of_suc-le-suc l)) where
  go : (i < n → tally n p + 1 ≡ tally n q) → (i ≡ n) ⊎ (i < n) → (cond (p n) 1 0 + tally n p) + 1 ≡ cond (q n) 1 0 + tally n q
  go ih (inl e) =
      let x : q n ≡ true = rw e at b in
      let y : p n ≡ false = rw e at a in
      let z : tally n q ≡ tally n p = tally_same q p n (λ j m. f j (λ d. absurd (omega arith))) in
      rw (x, y) (omega arith)
  go ih (inr m) =
      let x : q n ≡ p n = f n (λ d. absurd (omega arith)) in
      rw x (omega (arith, ih m))

-- nothing passes both p and q, and what passes one of them passes r
pub tally_both : (p q r : ℕ → Bool) (n : ℕ) → ((j : ℕ) → j < n → p j ≡ true → (q j ≡ false) × (r j ≡ true)) → ((j : ℕ) → j < n → q j ≡ true → r j ≡ true) →
    tally n p + tally n q ≤ tally n r
unfolding tally
tally_both p q r zero f g = le_refl 0
tally_both p q r (suc n) f g =
    go (p n) (q n) (r n) (f n (omega arith)) (g n (omega arith)) (tally_both p q r n (λ j l. f j (omega arith)) (λ j l. g j (omega arith))) where
      go : (x y z : Bool) → (x ≡ true → (y ≡ false) × (z ≡ true)) → (y ≡ true → z ≡ true) → tally n p + tally n q ≤ tally n r →
          (cond x 1 0 + tally n p) + (cond y 1 0 + tally n q) ≤ cond z 1 0 + tally n r
      go true true z d e h = clash refl (d refl).0
      go true false true d e h = omega arith
      go true false false d e h = clash (d refl).1 refl
      go false true true d e h = omega arith
      go false true false d e h = clash (e refl) refl
      go false false true d e h = omega arith
      go false false false d e h = omega arith
