-- New numbers rise with old ones, so that no two representatives share one, and each is below how
-- many there are. Assumes nothing.
use Prim.Native.Nat.{ℕ, ◌<◌, ◌≤◌}
use mathlib.Core.Path.{◌≡◌}
use mathlib.Core.Bool.{true}
use mathlib.Core.List.{List}
use mathlib.Core.Logic.{◌⊎◌, inl, inr}
use native.Mathlib.Omega.{arith}
use Rattle.std.proofs.lemmas.Bool.{cases_lt}
use Rattle.base_bounded.specs.Quantifiers.{tally}
use Rattle.base_bounded.proofs.Tallies.{tally_past}
use Rattle.base_fixpoint.specs.Pairs.{Pairs}
use Rattle.reduce_representatives.specs.Representative.{is_normal, new_of}

module _ (hs : List ℕ) (u : Pairs) where
  pub new_over : (r n : ℕ) → is_normal hs u r ≡ true → r < n → new_of hs u r < tally n (is_normal hs u)
  unfolding new_of
  new_over r n e l = tally_past (is_normal hs u) n l e

  pub new_injective : (r q : ℕ) → is_normal hs u r ≡ true → is_normal hs u q ≡ true → new_of hs u r ≡ new_of hs u q → r ≡ q
  unfolding new_of
  new_injective r q e d f = go (cases_lt r q) (cases_lt q r) where
    go : (r < q) ⊎ (q ≤ r) → (q < r) ⊎ (r ≤ q) → r ≡ q
    go (inl l) k = absurd (omega (arith, tally_past (is_normal hs u) q l e))
    go (inr l) (inl k) = absurd (omega (arith, tally_past (is_normal hs u) r k d))
    go (inr l) (inr k) = omega arith
