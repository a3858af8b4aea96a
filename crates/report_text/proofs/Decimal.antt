-- The decimal of a number shows that number, and has no zero in front, for every number of 64 bits.
-- Assumes nothing.
use Prim.Native.Nat.{ℕ, zero, suc, ◌+◌, ◌-◌, ◌*◌, ◌/◌, ◌%◌, ◌^◌, ◌<◌, ◌≤◌}
use mathlib.Core.Path.{◌≡◌, refl}
use mathlib.Core.Bool.{Bool, true, false, cond}
use mathlib.Core.List.{List, [], ◌∷◌, ◌++◌}
use native.Mathlib.Omega.{arith}
use borrow.Author.Tests.{ltb-false, lt-ltb, le-ltb}
use lib.ListN.{length, get_or, length-append, get_or-append}
use lib.Dec.{ltb}
use Rattle.report_text.specs.Text.{digits, decimal}
use Rattle.report_text.specs.Internal.Text.{digits_value}

-- what k digits hold
unfoldable pub limit : ℕ → ℕ
limit zero = 1
limit (suc k) = 10 * limit k

shown_append : (n : ℕ) (xs ys : List ℕ) → digits_value n (xs ++ ys) ≡ digits_value (digits_value n xs) ys
unfolding digits_value
shown_append n [] ys = refl
shown_append n (x ∷ xs) ys = shown_append (10 * n + (x - 48)) xs ys

digits_show : (k n : ℕ) → n < limit k → digits_value 0 (digits k n) ≡ n
unfolding digits limit digits_value
digits_show zero n l = omega arith
digits_show (suc k) n l = go (ltb n 10) (digits_show k (n / 10) (omega arith)) where
  go : (t : Bool) → digits_value 0 (digits k (n / 10)) ≡ n / 10 → digits_value 0 (cond t ((48 + n) ∷ []) (digits k (n / 10) ++ ((48 + n % 10) ∷ []))) ≡ n
  go true h = omega arith
  go false h = rw (shown_append 0 (digits k (n / 10)) ((48 + n % 10) ∷ []), h) (omega arith)

digits_lead : (k n : ℕ) → n < limit k → (n ≡ 0 → ⊥) → (0 < length (digits k n)) × (48 < get_or (digits k n) 0 0)
unfolding digits limit
digits_lead zero n l z = absurd (z (omega arith))
digits_lead (suc k) n l z = go (ltb n 10) refl (digits_lead k (n / 10) (omega arith)) where
  go : (t : Bool) → ltb n 10 ≡ t → ((n / 10 ≡ 0 → ⊥) → (0 < length (digits k (n / 10))) × (48 < get_or (digits k (n / 10)) 0 0)) →
      (0 < length (cond t ((48 + n) ∷ []) (digits k (n / 10) ++ ((48 + n % 10) ∷ [])))) × (48 < get_or (cond t ((48 + n) ∷ []) (digits k (n / 10) ++ ((48 + n % 10) ∷ []))) 0 0)
  go true e h = (omega arith, omega arith)
  go false e h =
      let l : 10 ≤ n = ltb-false n 10 e in
      let g = h (λ q. omega arith) in
      (omega (arith, length-append (digits k (n / 10)) ((48 + n % 10) ∷ [])), rw (get_or-append (digits k (n / 10)) ((48 + n % 10) ∷ []) 0 0 g.0) g.1)

pub decimal_value : (n : ℕ) → n < 2 ^ 64 → digits_value 0 (decimal n) ≡ n
unfolding decimal limit
decimal_value n l = digits_show 20 n (omega arith)

pub decimal_bare : (n : ℕ) → n < 2 ^ 64 → (n ≡ 0 → ⊥) → 48 < get_or (decimal n) 0 0
unfolding decimal limit
decimal_bare n l z = (digits_lead 20 n (omega arith) z).1

-- a digit more that may be put changes nothing
digits_enough : (k n : ℕ) → 0 < k → n < limit k → digits (suc k) n ≡ digits k n
unfolding digits limit
digits_enough zero n p l = absurd (omega arith)
digits_enough (suc zero) n p l = rw (lt-ltb n 10 (omega arith))
digits_enough (suc (suc k)) n p l = rw (digits_enough (suc k) (n / 10) (omega arith) (omega arith))

digits_cut : (k n : ℕ) → 10 ≤ n → digits (suc k) n ≡ digits k (n / 10) ++ ((48 + n % 10) ∷ [])
unfolding digits
digits_cut k n l = rw (le-ltb n 10 l)

pub digits_one : (k n : ℕ) → (k ≡ 0 → ⊥) → n < 10 → digits k n ≡ (48 + n) ∷ []
unfolding digits
digits_one zero n z l = absurd (z refl)
digits_one (suc k) n z l = rw (lt-ltb n 10 l)

-- a decimal is its last digit, or that digit behind the decimal of the number without it
pub decimal_one : (n : ℕ) → n < 10 → decimal n ≡ (48 + n) ∷ []
unfolding decimal
decimal_one n l = digits_one 20 n (λ z. omega arith) l

pub decimal_more : (n : ℕ) → n < 2 ^ 64 → 10 ≤ n → decimal n ≡ decimal (n / 10) ++ ((48 + n % 10) ∷ [])
unfolding decimal limit
decimal_more n l m = rw (digits_cut 19 n m, digits_enough 19 (n / 10) (omega arith) (omega arith))
