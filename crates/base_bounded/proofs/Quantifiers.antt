-- Laws of the tests over the numbers below a bound. Some serve a loop: `_none` where it begins,
-- `_more` for one step, `_fails` or `_found` for an early return, `_done` where the count has
-- reached the bound. Assumes nothing.
use Prim.Native.Nat.{ℕ, zero, suc, ◌+◌, ◌*◌, ◌<◌, ◌≤◌}
use mathlib.Core.Path.{◌≡◌, refl, sym, ap, ◌∙◌}
use mathlib.Core.Bool.{Bool, true, false, cond, ◌&&◌, ◌||◌}
use mathlib.Core.List.{[], ◌∷◌}
use mathlib.Core.Logic.{◌⊎◌, inl, inr, ⊎_elim}
use native.Mathlib.Nat.{eq-or-lt_of_le, le_of_suc-le-suc, not-suc-le-zero, le_refl, suc-mul}
use native.Mathlib.Numerals.{add-one}
use native.Mathlib.Omega.{arith}
use borrow.Author.Tests.{ltb-true, ltb-false, lt-ltb, le-ltb}
use lib.Dec.{ltb}
use lib.ListN.{length, get_or, length-append, get_or-append}
use lib.Seq.{get_or_at}
use Rattle.std.proofs.lemmas.Bool.{and_parts, and_right, cases_lt, or_cases, or_right}
use Rattle.base_bounded.specs.Quantifiers.{all, any, least, tally, tabulate, total}
use Rattle.base_bounded.proofs.Bools.{clash, same_test}

module _ (p : ℕ → Bool) where
  pub all_fails : (n : ℕ) {i : ℕ} → i < n → p i ≡ false → all n p ≡ false
  unfolding all
  all_fails zero l e = absurd (not-suc-le-zero l)
  all_fails (suc n) l e =
      ⊎_elim (λ q. ap (λ (j : ℕ). p j && all n p) (sym q) ∙ ap (λ (b : Bool). b && all n p) e)
      (λ m. and_right (p n) _ (all_fails n m e)) (eq-or-lt_of_le (le_of_suc-le-suc l))

  -- each number below the bound passes
  pub all_at : (n : ℕ) {i : ℕ} → all n p ≡ true → i < n → p i ≡ true
  unfolding all
  all_at zero e l = absurd (not-suc-le-zero l)
  all_at (suc n) e l =
      ⊎_elim (λ q. ap p q ∙ (and_parts (p n) (all n p) e).0) (λ m. all_at n (and_parts (p n) (all n p) e).1 m)
      (eq-or-lt_of_le (le_of_suc-le-suc l))

  pub all_yes : (n : ℕ) → ((j : ℕ) → j < n → p j ≡ true) → all n p ≡ true
  unfolding all
  all_yes zero f = refl
  all_yes (suc n) f = rw (f n (omega arith)) (all_yes n (λ j h. f j (omega arith)))

  -- a number below the bound that fails
  pub all_counter : (n : ℕ) → all n p ≡ false → (i : ℕ) × (i < n) × (p i ≡ false)
  unfolding all
  all_counter zero e = clash refl e
  all_counter (suc n) e = go (p n) refl (all n p) refl (λ d. all_counter n d) e where
    go : (x : Bool) → p n ≡ x → (y : Bool) → all n p ≡ y → (all n p ≡ false → (i : ℕ) × (i < n) × (p i ≡ false)) →
        (x && y) ≡ false → (i : ℕ) × (i < suc n) × (p i ≡ false)
    go true d y f ih e = let (i, l, h) = ih (f ∙ e) in (i, omega arith, h)
    go false d y f ih e = (n, le_refl (suc n), d)

  pub any_none : any 0 p ≡ false
  unfolding any
  any_none = refl

  pub any_more : (i : ℕ) → any i p ≡ false → p i ≡ false → any (i + 1) p ≡ false
  unfolding any
  any_more i h e = rw (add-one, e) h

  pub any_found : (n : ℕ) {i : ℕ} → i < n → p i ≡ true → any n p ≡ true
  unfolding any
  any_found zero l e = absurd (not-suc-le-zero l)
  any_found (suc n) l e =
      ⊎_elim (λ q. ap (λ (j : ℕ). p j || any n p) (sym q) ∙ ap (λ (b : Bool). b || any n p) e)
      (λ m. or_right (p n) _ (any_found n m e)) (eq-or-lt_of_le (le_of_suc-le-suc l))

  -- a number below the bound that passes
  pub any_at : (n : ℕ) → any n p ≡ true → (i : ℕ) × (i < n) × (p i ≡ true)
  unfolding any
  any_at zero e = clash e refl
  any_at (suc n) e = go (or_cases (p n) (any n p) e) (λ d. any_at n d) where
    go : (p n ≡ true) ⊎ (any n p ≡ true) → (any n p ≡ true → (i : ℕ) × (i < n) × (p i ≡ true)) → (i : ℕ) × (i < suc n) × (p i ≡ true)
    go (inl d) ih = (n, le_refl (suc n), d)
    go (inr d) ih = let (i, l, h) = ih d in (i, omega arith, h)

  pub any_no : (n : ℕ) → ((j : ℕ) → j < n → p j ≡ false) → any n p ≡ false
  unfolding any
  any_no zero f = refl
  any_no (suc n) f = rw (f n (omega arith)) (any_no n (λ j h. f j (omega arith)))

  pub any_never : (n : ℕ) {i : ℕ} → any n p ≡ false → i < n → p i ≡ false
  any_never n {i} e l = go (p i) refl where
    go : (x : Bool) → p i ≡ x → p i ≡ false
    go true d = clash (any_found n l d) e
    go false d = d

  -- none passes from lo on
  pub any_rest : (n : ℕ) {lo : ℕ} → lo ≤ n → ((j : ℕ) → lo ≤ j → j < n → p j ≡ false) → any n p ≡ any lo p
  any_rest n {lo} l f = same_test (any n p) (any lo p) there (λ e. let (i, k, d) = any_at lo e in any_found n (omega arith) d) where
    there : any n p ≡ true → any lo p ≡ true
    there e = let (i, k, d) = any_at n e in ⊎_elim (λ h. any_found lo h d) (λ h. clash d (f i h k)) (cases_lt i lo)

  pub least_none : least 0 p ≡ 0
  unfolding least
  least_none = refl

  pub least_within : (n : ℕ) → least n p ≤ n
  unfolding least
  least_within zero = le_refl 0
  least_within (suc n) = go (ltb (least n p) n) refl (p n) where
    go : (t : Bool) → ltb (least n p) n ≡ t → (x : Bool) → cond t (least n p) (cond x n (suc n)) ≤ suc n
    go true e x = omega (arith, ltb-true (least n p) n e)
    go false e true = omega arith
    go false e false = omega arith

  pub least_more : (i : ℕ) → least i p ≡ i → p i ≡ false → least (i + 1) p ≡ i + 1
  unfolding least
  least_more i h e = rw (add-one, h, le-ltb i i (le_refl i), e)

  pub least_found : (n : ℕ) {i : ℕ} → i < n → least i p ≡ i → p i ≡ true → least n p ≡ i
  unfolding least
  least_found zero l h e = absurd (not-suc-le-zero l)
  least_found (suc n) {i} l h e =
      ⊎_elim (λ q. here (sym q)) (λ m. let g : least n p ≡ i = least_found n m h e in rw (g, lt-ltb i n m)) (eq-or-lt_of_le (le_of_suc-le-suc l)) where
        here : n ≡ i → cond (ltb (least n p) n) (least n p) (cond (p n) n (suc n)) ≡ i
        here q = rw (q, h, le-ltb i i (le_refl i), e)

  pub least_done : {i n : ℕ} → i ≤ n → n ≤ i → least i p ≡ i → least n p ≡ n
  least_done {i} {n} h l e = let q : n ≡ i = omega arith in rw q e

  -- the least number that passes does pass, and none before it
  pub least_passes : (n : ℕ) → least n p < n → p (least n p) ≡ true
  unfolding least
  least_passes zero l = absurd (not-suc-le-zero l)
  least_passes (suc n) l = go (least_passes n) (ltb (least n p) n) refl (p n) refl l where
    go : (least n p < n → p (least n p) ≡ true) → (t : Bool) → ltb (least n p) n ≡ t → (x : Bool) → p n ≡ x →
        cond t (least n p) (cond x n (suc n)) < suc n → p (cond t (least n p) (cond x n (suc n))) ≡ true
    go ih true d x e l = ih (ltb-true (least n p) n d)
    go ih false d true e l = e
    go ih false d false e l = absurd (omega arith)

  pub least_before : (n : ℕ) {j : ℕ} → j < least n p → p j ≡ false
  unfolding least
  least_before zero l = absurd (not-suc-le-zero l)
  least_before (suc n) {j} l = go (λ h. least_before n h) (least_within n) (ltb (least n p) n) refl (p n) refl l where
    go : (j < least n p → p j ≡ false) → least n p ≤ n → (t : Bool) → ltb (least n p) n ≡ t → (x : Bool) → p n ≡ x →
        j < cond t (least n p) (cond x n (suc n)) → p j ≡ false
    go ih w true d x e l = ih l
    go ih w false d true e l = ih (omega (arith, ltb-false (least n p) n d))
    go ih w false d false e l =
        ⊎_elim (λ q. ap p q ∙ e) (λ m. ih (omega (arith, ltb-false (least n p) n d))) (eq-or-lt_of_le (le_of_suc-le-suc l))

  pub least_no : (n : ℕ) → ((j : ℕ) → j < n → p j ≡ false) → least n p ≡ n
  least_no zero f = least_none
  least_no (suc n) f = rw add-one at (least_more n (least_no n (λ j h. f j (omega arith))) (f n (omega arith)))

  pub least_is : (n r : ℕ) → r ≤ n → ((j : ℕ) → j < r → p j ≡ false) → (r < n → p r ≡ true) → least n p ≡ r
  least_is n r h f g =
      ⊎_elim (λ q. rw (← q) (least_no r f)) (λ l. least_found n l (least_no r f) (g l)) (eq-or-lt_of_le h)

  pub tally_within : (n : ℕ) → tally n p ≤ n
  unfolding tally
  tally_within zero = le_refl 0
  tally_within (suc n) = go (p n) (tally_within n) where
    go : (x : Bool) → tally n p ≤ n → cond x 1 0 + tally n p ≤ suc n
    go true h = omega arith
    go false h = omega arith

-- two tests that agree below the bound
module _ (p q : ℕ → Bool) where
  pub all_same : (n : ℕ) → ((j : ℕ) → j < n → p j ≡ q j) → all n p ≡ all n q
  unfolding all
  all_same zero f = refl
  all_same (suc n) f = rw (f n (omega arith), all_same n (λ j h. f j (omega arith)))

  pub any_same : (n : ℕ) → ((j : ℕ) → j < n → p j ≡ q j) → any n p ≡ any n q
  unfolding any
  any_same zero f = refl
  any_same (suc n) f = rw (f n (omega arith), any_same n (λ j h. f j (omega arith)))

  pub tally_same : (n : ℕ) → ((j : ℕ) → j < n → p j ≡ q j) → tally n p ≡ tally n q
  unfolding tally
  tally_same zero f = refl
  tally_same (suc n) f = rw (f n (omega arith), tally_same n (λ j h. f j (omega arith)))

-- what passes p passes q
module _ (p q : ℕ → Bool) where
  pub tally_mono : (n : ℕ) → ((j : ℕ) → j < n → p j ≡ true → q j ≡ true) → tally n p ≤ tally n q
  unfolding tally
  tally_mono zero f = le_refl 0
  tally_mono (suc n) f = go (p n) (q n) (f n (omega arith)) (tally_mono n (λ j h. f j (omega arith))) where
    go : (x y : Bool) → (x ≡ true → y ≡ true) → tally n p ≤ tally n q → cond x 1 0 + tally n p ≤ cond y 1 0 + tally n q
    go true true g h = omega arith
    go true false g h = clash (g refl) refl
    go false true g h = omega arith
    go false false g h = omega arith

  -- and fewer pass p where one passes q alone
  pub tally_less : (n : ℕ) {i : ℕ} → ((j : ℕ) → j < n → p j ≡ true → q j ≡ true) → i < n → p i ≡ false → q i ≡ true → tally n p < tally n q
  unfolding tally
  tally_less zero f l a b = absurd (not-suc-le-zero l)
  tally_less (suc n) {i} f l a b =
      ⊎_elim (λ e. here (sym e))
      (λ m. there (p n) (q n) (f n (omega arith)) (tally_less n (λ j h. f j (omega arith)) m a b))
      (eq-or-lt_of_le (le_of_suc-le-suc l)) where
        at : (x y : Bool) → x ≡ false → y ≡ true → tally n p ≤ tally n q → cond x 1 0 + tally n p < cond y 1 0 + tally n q
        at true y d e h = clash refl d
        at false true d e h = omega arith
        at false false d e h = clash e refl

        here : n ≡ i → cond (p n) 1 0 + tally n p < cond (q n) 1 0 + tally n q
        here e = at (p n) (q n) (ap p e ∙ a) (ap q e ∙ b) (tally_mono n (λ j k. f j (omega arith)))

        there : (x y : Bool) → (x ≡ true → y ≡ true) → tally n p < tally n q → cond x 1 0 + tally n p < cond y 1 0 + tally n q
        there true true g h = omega arith
        there true false g h = clash (g refl) refl
        there false true g h = omega arith
        there false false g h = omega arith

module _ (f : ℕ → ℕ) where
  pub length_tabulate : (n : ℕ) → length (tabulate n f) ≡ n
  unfolding tabulate
  length_tabulate zero = refl
  length_tabulate (suc n) = rw (length-append, length_tabulate n, add-one)

  pub get_d_tabulate : (n : ℕ) {i : ℕ} → i < n → get_or (tabulate n f) i 0 ≡ f i
  unfolding tabulate
  get_d_tabulate zero l = absurd (not-suc-le-zero l)
  get_d_tabulate (suc n) {i} l =
      ⊎_elim (λ q. get_or_at (tabulate n f) (f n) [] 0 i (length_tabulate n ∙ sym q) ∙ ap f (sym q))
      (λ m. get_or-append (tabulate n f) (f n ∷ []) 0 i (rw (length_tabulate n) m) ∙ get_d_tabulate n m)
      (eq-or-lt_of_le (le_of_suc-le-suc l))

-- how many pass: one step of a loop that counts, and none at all
module _ (p : ℕ → Bool) where
  pub tally_none : tally 0 p ≡ 0
  unfolding tally
  tally_none = refl

  pub tally_more : (i : ℕ) {n : ℕ} → n ≡ tally i p → p i ≡ true → n + 1 ≡ tally (i + 1) p
  unfolding tally
  tally_more i h e = rw (add-one i, e) (omega arith)

  pub tally_skip : (i : ℕ) {n : ℕ} → n ≡ tally i p → p i ≡ false → n ≡ tally (i + 1) p
  unfolding tally
  tally_skip i h e = rw (add-one i, e) (omega arith)

  pub tally_done : {i n k : ℕ} → i ≤ n → n ≤ i → k ≡ tally i p → k ≡ tally n p
  tally_done {i} {n} h l e = let q : n ≡ i = omega arith in rw q e

  pub tally_zero : (n : ℕ) → ((j : ℕ) → j < n → p j ≡ false) → tally n p ≡ 0
  unfolding tally
  tally_zero zero f = refl
  tally_zero (suc n) f = let h : tally n p ≡ 0 = tally_zero n (λ j l. f j (omega arith)) in rw (f n (omega arith)) (omega arith)

  pub tally_each : (n : ℕ) {i : ℕ} → tally n p ≡ 0 → i < n → p i ≡ false
  unfolding tally
  tally_each zero e l = absurd (not-suc-le-zero l)
  tally_each (suc n) {i} e l = go (p n) refl (λ d m. tally_each n d m) e where
    go : (x : Bool) → p n ≡ x → (tally n p ≡ 0 → i < n → p i ≡ false) → cond x 1 0 + tally n p ≡ 0 → p i ≡ false
    go true d ih e = absurd (omega arith)
    go false d ih e = ⊎_elim (λ q. ap p q ∙ d) (λ m. ih (omega arith) m) (eq-or-lt_of_le (le_of_suc-le-suc l))

-- sums: one step of a loop that adds, and bounds
module _ (f : ℕ → ℕ) where
  pub total_none : total 0 f ≡ 0
  unfolding total
  total_none = refl

  pub total_more : (i : ℕ) {n k : ℕ} → n ≡ total i f → k ≡ f i → n + k ≡ total (i + 1) f
  unfolding total
  total_more i h e = rw (add-one i) (omega arith)

  pub total_done : {i n k : ℕ} → i ≤ n → n ≤ i → k ≡ total i f → k ≡ total n f
  total_done {i} {n} h l e = let q : n ≡ i = omega arith in rw q e

  pub total_zero : (n : ℕ) → ((j : ℕ) → j < n → f j ≡ 0) → total n f ≡ 0
  unfolding total
  total_zero zero h = refl
  total_zero (suc n) h = omega (arith, h n (omega arith), total_zero n (λ j l. h j (omega arith)))

  -- a sum that is 0 has no other summand
  pub total_each : (n : ℕ) {i : ℕ} → total n f ≡ 0 → i < n → f i ≡ 0
  unfolding total
  total_each zero e l = absurd (not-suc-le-zero l)
  total_each (suc n) {i} e l =
      ⊎_elim (λ q. ap f q ∙ head) (λ m. total_each n (omega arith) m) (eq-or-lt_of_le (le_of_suc-le-suc l)) where
        head : f n ≡ 0
        head = omega arith

  pub total_most : (b n : ℕ) → ((j : ℕ) → j < n → f j ≤ b) → total n f ≤ n * b
  unfolding total
  total_most b zero h = omega arith
  total_most b (suc n) h =
      let most : total n f ≤ n * b = total_most b n (λ j l. h j (omega arith)) in
      let last : f n ≤ b = h n (omega arith) in
      rw (suc-mul n b) (omega arith)

module _ (f g : ℕ → ℕ) where
  pub total_add : (n : ℕ) → total n (λ (j : ℕ). f j + g j) ≡ total n f + total n g
  unfolding total
  total_add zero = refl
  total_add (suc n) = let h : total n (λ (j : ℕ). f j + g j) ≡ total n f + total n g = total_add n in omega arith

tally_total : (p : ℕ → Bool) (n : ℕ) → tally n p ≡ total n (λ (j : ℕ). cond (p j) 1 0)
unfolding tally total
tally_total p zero = refl
tally_total p (suc n) = rw (tally_total p n)

-- pairs that pass may be counted by the one number or by the other
pub total_exchange : (p : ℕ → ℕ → Bool) (n m : ℕ) → total n (λ (j : ℕ). tally m (p j)) ≡ total m (λ (s : ℕ). tally n (λ (j : ℕ). p j s))
unfolding total tally
total_exchange p zero m = sym (total_zero (λ (s : ℕ). 0) m (λ j l. refl))
total_exchange p (suc n) m =
    rw (tally_total (p n) m, total_exchange p n m) (sym (total_add (λ (s : ℕ). cond (p n s) 1 0) (λ (s : ℕ). tally n (λ (j : ℕ). p j s)) m))
