-- What `all` and `any` over a range say of each number of it. Assumes nothing.
use Prim.Native.Nat.{ℕ, ◌<◌}
use mathlib.Core.Path.{◌≡◌, sym, ap, ◌∙◌}
use mathlib.Core.Bool.{Bool, true, false}
use native.Mathlib.Omega.{arith}
use lib.ListN.{length, get_or}
use Rattle.std.specs.Bool.{MatchBool}
use Rattle.std.specs.List.{range_with_len, AllWithin, HoldsAt}
use Rattle.std.proofs.lemmas.List.FromFn.{length-range_with_len, get_or-range_with_len}
use Rattle.base_bounded.specs.Quantifiers.{all, any}
use Rattle.base_bounded.proofs.Quantifiers.{all_yes, all_fails, any_no, any_found}

module _ (p : ℕ → Bool) (n : ℕ) where
  stands : (j : ℕ) → j < n → j ≡ get_or (range_with_len 0 n) j 0
  stands j l = omega (arith, get_or-range_with_len 0 n j 0 l)

  each : (b : Bool) → AllWithin (λ i. p i ≡ b) (range_with_len 0 n) 0 (length (range_with_len 0 n)) → (j : ℕ) → j < n → p j ≡ b
  each b h j l = ap p (stands j l) ∙ h j 0 (omega arith) (omega (arith, length-range_with_len 0 n))

  some : (b : Bool) → (k : ℕ) × (k < length (range_with_len 0 n)) × HoldsAt (λ i. p i ≡ b) (range_with_len 0 n) k → (k : ℕ) × (k < n) × (p k ≡ b)
  some b (k, l, h) = let m : k < n = omega (arith, length-range_with_len 0 n) in (k, m, ap p (stands k m) ∙ h 0)

  pub all_range : (r : Bool) →
      MatchBool r (AllWithin (λ i. p i ≡ true) (range_with_len 0 n) 0 (length (range_with_len 0 n)))
      ((k : ℕ) × (k < length (range_with_len 0 n)) × HoldsAt (λ i. p i ≡ false) (range_with_len 0 n) k) → r ≡ all n p
  all_range true h = sym (all_yes p n (each true h))
  all_range false h = let (k, l, e) = some false h in sym (all_fails p n l e)

  pub any_range : (r : Bool) →
      MatchBool r ((k : ℕ) × (k < length (range_with_len 0 n)) × HoldsAt (λ i. p i ≡ true) (range_with_len 0 n) k)
      (AllWithin (λ i. p i ≡ false) (range_with_len 0 n) 0 (length (range_with_len 0 n))) → r ≡ any n p
  any_range true h = let (k, l, e) = some true h in sym (any_found p n l e)
  any_range false h = sym (any_no p n (each false h))
