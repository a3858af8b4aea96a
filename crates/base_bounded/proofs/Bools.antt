-- Laws of Bool tests: what a joined test says of its parts, and the other way round. Assumes
-- nothing.
use Prim.Native.Nat.{ℕ, ◌<◌, ◌≤◌}
use mathlib.Core.Path.{◌≡◌, refl, sym, ◌∙◌}
use mathlib.Core.Bool.{Bool, true, false, not, ◌&&◌, ◌||◌}
use mathlib.Core.Logic.{◌⊎◌, inl, inr}
use borrow.Author.Tests.{ltb-true, ltb-false, eqb-true, eqb-false}
use lib.Dec.{ltb, eqb}
use Rattle.std.proofs.lemmas.Bool.{true≢false}

-- a test cannot pass and fail
pub clash {ℓ} : {A : Type ℓ} {b : Bool} → b ≡ true → b ≡ false → A
clash p q = absurd (true≢false (sym p ∙ q))

-- one of the two
pub decided : (b : Bool) → (b ≡ true) ⊎ (b ≡ false)
decided true = inl refl
decided false = inr refl

pub lt_or_le : (i n : ℕ) → (i < n) ⊎ (n ≤ i)
lt_or_le i n = go (ltb i n) refl where
  go : (t : Bool) → ltb i n ≡ t → (i < n) ⊎ (n ≤ i)
  go true e = inl (ltb-true i n e)
  go false e = inr (ltb-false i n e)

pub eq_or_not : (a b : ℕ) → (a ≡ b) ⊎ (a ≡ b → ⊥)
eq_or_not a b = go (eqb a b) refl where
  go : (t : Bool) → eqb a b ≡ t → (a ≡ b) ⊎ (a ≡ b → ⊥)
  go true e = inl (eqb-true a b e)
  go false e = inr (eqb-false a b e)

pub not_yes : {b : Bool} → b ≡ true → not b ≡ false
not_yes e = rw e

pub not_no : {b : Bool} → b ≡ false → not b ≡ true
not_no e = rw e

pub and_yes : {a b : Bool} → a ≡ true → b ≡ true → (a && b) ≡ true
and_yes p q = rw (p, q)

pub and_left : (a b : Bool) → (a && b) ≡ true → a ≡ true
and_left true b e = refl
and_left false b e = e

pub and_right : (a b : Bool) → (a && b) ≡ true → b ≡ true
and_right true b e = e
and_right false b e = clash e refl

pub and_no_left : {a : Bool} (b : Bool) → a ≡ false → (a && b) ≡ false
and_no_left b e = rw e

pub and_no_right : (a : Bool) {b : Bool} → b ≡ false → (a && b) ≡ false
and_no_right true e = e
and_no_right false e = refl

pub or_left : {a : Bool} (b : Bool) → a ≡ true → (a || b) ≡ true
or_left b e = rw e

pub or_right : (a : Bool) {b : Bool} → b ≡ true → (a || b) ≡ true
or_right true e = refl
or_right false e = e

pub or_no : {a b : Bool} → a ≡ false → b ≡ false → (a || b) ≡ false
or_no p q = rw (p, q)

pub or_yes : (a b : Bool) → (a || b) ≡ true → (a ≡ true) ⊎ (b ≡ true)
or_yes true b e = inl refl
or_yes false b e = inr e

-- two tests are the same when each passes where the other does
pub same_test : (a b : Bool) → (a ≡ true → b ≡ true) → (b ≡ true → a ≡ true) → a ≡ b
same_test true b f g = sym (f refl)
same_test false true f g = g refl
same_test false false f g = refl

-- a test whose passing is absurd fails
pub no_test : (a : Bool) → (a ≡ true → ⊥) → a ≡ false
no_test true f = absurd (f refl)
no_test false f = refl
