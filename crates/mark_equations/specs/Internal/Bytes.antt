-- The byte for an answer says that answer, and no other byte does. Assumes nothing.
use Prim.Native.Nat.{ℕ}
use mathlib.Core.Path.{◌≡◌, refl}
use mathlib.Core.Bool.{Bool, true, false}
use mathlib.Core.Logic.{◌⊎◌, inl, inr}
use borrow.Author.Tests.{ne_eqb}
use Rattle.base_bounded.proofs.Bools.{eq_or_not}
use Rattle.mark_equations.specs.Internal.Known.{word_for, byte_for, known_of}

pub byte_tells : (v : Bool) → known_of (byte_for v) ≡ word_for v
byte_tells true = refl
byte_tells false = refl

pub byte_told : (n : ℕ) (v : Bool) → known_of n ≡ word_for v → n ≡ byte_for v
byte_told n v e = go v (eq_or_not n 1) (eq_or_not n 2) e where
  go : (v : Bool) → (n ≡ 1) ⊎ (n ≡ 1 → ⊥) → (n ≡ 2) ⊎ (n ≡ 2 → ⊥) → known_of n ≡ word_for v → n ≡ byte_for v
  go false (inl p) d e = p
  go false (inr p) (inl q) e = absurd (cc (rw (ne_eqb _ _ p, q) at e))
  go false (inr p) (inr q) e = absurd (cc (rw (ne_eqb _ _ p, ne_eqb _ _ q) at e))
  go true (inl p) d e = absurd (cc (rw p at e))
  go true (inr p) (inl q) e = q
  go true (inr p) (inr q) e = absurd (cc (rw (ne_eqb _ _ p, ne_eqb _ _ q) at e))
