-- Laws of the least number below a bound that passes a test; and of the least of the pairs that
-- pass a test of two numbers, where the pairs come in the order of the second number: a search that
-- goes by states keeps the least hop so. Assumes nothing.
use Prim.Native.Nat.{ℕ, ◌+◌, ◌<◌, ◌≤◌}
use mathlib.Core.Path.{◌≡◌, refl, sym, ap, ◌∙◌}
use mathlib.Core.Bool.{Bool, true, false, cond, ◌||◌}
use mathlib.Core.Logic.{⊎_elim}
use native.Mathlib.Numerals.{add-one}
use native.Mathlib.Omega.{arith}
use borrow.Author.Tests.{ltb-true, lt-ltb}
use lib.Dec.{ltb}
use Rattle.std.proofs.lemmas.Bool.{cases_lt, or_right}
use Rattle.base_bounded.specs.Quantifiers.{any, least, tally}
use Rattle.base_bounded.proofs.Bools.{clash}
use Rattle.base_bounded.proofs.Quantifiers.{any_at, any_never, least_within, least_passes, least_before, least_no, least_is, tally_zero}

module _ (p : ℕ → Bool) (n : ℕ) where
  -- nothing that comes before it counts
  pub tally_least : tally (least n p) p ≡ 0
  tally_least = tally_zero p (least n p) (λ j l. least_before p n l)

  -- it is below the bound exactly where something passes
  pub least_some : any n p ≡ true → least n p < n
  least_some e =
      let (i, l, d) = any_at p n e in
      ⊎_elim (λ h. h) (λ h. clash d (least_before p n (omega arith))) (cases_lt (least n p) n)

  pub least_all : n ≤ least n p → {j : ℕ} → j < n → p j ≡ false
  least_all h l = least_before p n (omega arith)

  pub zero_least : n ≤ least n p → tally n p ≡ 0
  zero_least h = tally_zero p n (λ j l. least_all h l)

-- two tests that agree below the bound
pub least_same : (p q : ℕ → Bool) (n : ℕ) → ((j : ℕ) → j < n → p j ≡ q j) → least n p ≡ least n q
least_same p q n f =
    least_is p n (least n q) (least_within q n) (λ j l. f j (omega (arith, least_within q n)) ∙ least_before q n l)
    (λ l. f (least n q) l ∙ least_passes q n l)

-- the pairs of a number below b and one below n: the least first number of one that passes, or b,
-- and for it the least second number, or 0
module _ (b : ℕ) (p : ℕ → ℕ → Bool) where
  abbrev pub least_first : ℕ → ℕ
  least_first n = least b (λ (j : ℕ). any n (p j))

  abbrev pub least_second : ℕ → ℕ
  least_second n = cond (ltb (least_first n) b) (least n (p (least_first n))) 0

  any_none_yet : (n : ℕ) {j : ℕ} → j < least_first n → any n (p j) ≡ false
  any_none_yet n l = least_before (λ (j : ℕ). any n (p j)) b l

  any_next : (n j : ℕ) {x y : Bool} → p j n ≡ x → any n (p j) ≡ y → any (n + 1) (p j) ≡ (x || y)
  unfolding any
  any_next n j d e = rw (add-one n, d, e)

  -- where the search begins
  pub first_none : least_first 0 ≡ b
  unfolding any
  first_none = least_no (λ (j : ℕ). any 0 (p j)) b (λ j l. refl)

  -- one second number more, for which f is the least first number
  module _ (n : ℕ) {f : ℕ} (e : f ≡ least b (λ (j : ℕ). p j n)) where
    none_here : {j : ℕ} → j < f → p j n ≡ false
    none_here {j} l = least_before (λ (j : ℕ). p j n) b (omega arith)

    -- a smaller place is kept, with this number
    module _ (sooner : f < least_first n) where
      within : f < b
      within = omega (arith, least_within (λ (j : ℕ). any n (p j)) b)

      here : p f n ≡ true
      here = ap (λ (x : ℕ). p x n) e ∙ least_passes (λ (j : ℕ). p j n) b (omega (arith, within))

      pub first_sooner : f ≡ least_first (n + 1)
      first_sooner =
          sym (least_is (λ (j : ℕ). any (n + 1) (p j)) b f (omega (arith, within))
          (λ j l. any_next n j (none_here l) (any_none_yet n (omega arith)))
          (λ l. any_next n f here refl))

      pub second_sooner : n ≡ least_second (n + 1)
      second_sooner =
          rw (← first_sooner, lt-ltb f b within)
          (sym (least_is (p f) (n + 1) n (omega arith) (λ j l. any_never (p f) n (any_none_yet n sooner) l) (λ l. here)))

    -- else nothing changes
    module _ (later : least_first n ≤ f) where
      still : least_first n < b → any n (p (least_first n)) ≡ true
      still l = least_passes (λ (j : ℕ). any n (p j)) b l

      pub first_later : least_first n ≡ least_first (n + 1)
      first_later =
          sym (least_is (λ (j : ℕ). any (n + 1) (p j)) b (least_first n) (least_within (λ (j : ℕ). any n (p j)) b)
          (λ j l. any_next n j (none_here (omega arith)) (any_none_yet n l))
          (λ l. any_next n (least_first n) refl (still l) ∙ or_right (p (least_first n) n) _ refl))

      second_same : (i : ℕ) → any n (p i) ≡ true → least n (p i) ≡ least (n + 1) (p i)
      second_same i d =
          let w : least n (p i) < n = least_some (p i) n d in
          sym (least_is (p i) (n + 1) (least n (p i)) (omega arith) (λ j l. least_before (p i) n l) (λ l. least_passes (p i) n w))

      pub second_later : least_second n ≡ least_second (n + 1)
      second_later = rw (← first_later) (go (ltb (least_first n) b) refl) where
        go : (x : Bool) → ltb (least_first n) b ≡ x → cond x (least n (p (least_first n))) 0 ≡ cond x (least (n + 1) (p (least_first n))) 0
        go true d = second_same (least_first n) (still (ltb-true (least_first n) b d))
        go false d = refl
