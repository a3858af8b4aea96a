-- A chain of sets of numbers below n: each set is within the one before, and after a step without
-- change no later step changes anything. Such a chain is stationary after n steps, since each step
-- that changes something removes a number. Rounds of marking and bounded walks both end by this.
-- Assumes nothing.
use Prim.Native.Nat.{ℕ, zero, suc, ◌+◌, ◌<◌, ◌≤◌}
use mathlib.Core.Path.{◌≡◌, refl, sym, ◌∙◌}
use mathlib.Core.Bool.{Bool, true, false}
use mathlib.Core.Logic.{◌⊎◌, inl, inr}
use native.Mathlib.Omega.{arith}
use Rattle.std.proofs.lemmas.Bool.{cases_Bool}
use Rattle.base_bounded.specs.Quantifiers.{all, tally}
use Rattle.base_bounded.proofs.Bools.{clash}
use Rattle.base_bounded.proofs.Quantifiers.{tally_less, tally_within, all_at, all_counter}

-- at each number below n, a test of `chain (suc k)` is one of `chain k`
abbrev pub Falling : ℕ → (ℕ → ℕ → Bool) → Type 0
Falling n chain = (k j : ℕ) → j < n → chain (suc k) j ≡ true → chain k j ≡ true

-- step k changes nothing below n
abbrev pub Still : ℕ → (ℕ → ℕ → Bool) → ℕ → Type 0
Still n chain k = (j : ℕ) → j < n → chain k j ≡ chain (suc k) j

module _ (n : ℕ) (chain : ℕ → ℕ → Bool) (falls : Falling n chain) (rests : (k : ℕ) → Still n chain k → Still n chain (suc k)) where
  -- step k changes nothing, or removes a number
  step : (k : ℕ) → Still n chain k ⊎ (tally n (chain (suc k)) < tally n (chain k))
  step k = go (cases_Bool (all n kept)) where
    open_or : Bool → Bool → Bool
    open_or true b = b
    open_or false b = true

    kept : ℕ → Bool
    kept j = open_or (chain k j) (chain (suc k) j)

    still_at : (j : ℕ) → j < n → (x y : Bool) → chain k j ≡ x → chain (suc k) j ≡ y → open_or x y ≡ true → x ≡ y
    still_at j l true y a b e = sym e
    still_at j l false true a b e = clash (falls k j l b) a
    still_at j l false false a b e = refl

    out_at : (j : ℕ) → (x y : Bool) → open_or x y ≡ false → (x ≡ true) × (y ≡ false)
    out_at j true y e = (refl, e)
    out_at j false y e = clash refl e

    go : (all n kept ≡ true) ⊎ (all n kept ≡ false) → Still n chain k ⊎ (tally n (chain (suc k)) < tally n (chain k))
    go (inl e) = inl (λ j l. still_at j l (chain k j) (chain (suc k) j) refl refl (all_at kept n e l))
    go (inr e) =
        let (i, l, h) = all_counter kept n e in
        let (a, b) = out_at i (chain k i) (chain (suc k) i) h in
        inr (tally_less (chain (suc k)) (chain k) n (falls k) l b a)

  pub still_after : (k : ℕ) → Still n chain k → (m : ℕ) → Still n chain (m + k)
  still_after k h zero = rw zero_left h where
    zero_left : 0 + k ≡ k
    zero_left = omega arith
  still_after k h (suc m) = rw suc_left (rests (m + k) (still_after k h m)) where
    suc_left : suc m + k ≡ suc (m + k)
    suc_left = omega arith

  -- after k steps the chain is stationary, or has lost k numbers
  lost : (k : ℕ) → Still n chain k ⊎ (tally n (chain k) + k ≤ n)
  lost zero = inr (omega (arith, tally_within (chain 0) n))
  lost (suc k) = go (lost k) (step k) where
    go : Still n chain k ⊎ (tally n (chain k) + k ≤ n) → Still n chain k ⊎ (tally n (chain (suc k)) < tally n (chain k)) →
        Still n chain (suc k) ⊎ (tally n (chain (suc k)) + suc k ≤ n)
    go (inl s) d = inl (rests k s)
    go (inr l) (inl s) = inl (rests k s)
    go (inr l) (inr d) = inr (omega arith)

  pub still_at_last : Still n chain n
  still_at_last = go (lost n) (step n) where
    go : Still n chain n ⊎ (tally n (chain n) + n ≤ n) → Still n chain n ⊎ (tally n (chain (suc n)) < tally n (chain n)) → Still n chain n
    go (inl s) d = s
    go (inr l) (inl s) = s
    go (inr l) (inr d) = absurd (omega arith)

  -- so it is the same at every later step
  pub same_from : (m j : ℕ) → j < n → chain n j ≡ chain (m + n) j
  same_from zero j l = rw zero_left where
    zero_left : 0 + n ≡ n
    zero_left = omega arith
  same_from (suc m) j l = same_from m j l ∙ still_after n still_at_last m j l ∙ rw suc_left where
    suc_left : suc m + n ≡ suc (m + n)
    suc_left = omega arith
