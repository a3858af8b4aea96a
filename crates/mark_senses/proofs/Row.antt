-- Row 19, as equations and as what it says. Assumes nothing.
use Prim.Native.Nat.{ℕ}
use mathlib.Core.Path.{◌≡◌, refl}
use mathlib.Core.Bool.{true, false}
use mathlib.Core.Logic.{◌⊎◌, ◌↔◌}
use Rattle.std.proofs.lemmas.Bool.Decides.{Decides-eqb, Decides-or}
use Rattle.graph.specs.Answers.{accepted, refused}
use Rattle.lts.specs.Closes.{r1, r2, r3, r8}
use Rattle.mark_senses.specs.Senses.{is_sense, sense_of, sense_answer}

pub sense_passes : (k : ℕ) → is_sense k ≡ true → sense_answer k ≡ accepted
unfolding sense_answer
sense_passes k e = rw e

pub sense_refused : (k : ℕ) → is_sense k ≡ false → sense_answer k ≡ refused 19 0
unfolding sense_answer
sense_refused k e = rw e

-- "the sense as a number 1, 2, 3 or 8"
pub sense_iff : (k : ℕ) → (is_sense k ≡ true) ↔ ((k ≡ 1) ⊎ ((k ≡ 2) ⊎ ((k ≡ 3) ⊎ (k ≡ 8))))
unfolding is_sense
sense_iff k =
    Decides-or _ _ (Decides-eqb k 1) (Decides-or _ _ (Decides-eqb k 2) (Decides-or _ _ (Decides-eqb k 3) (Decides-eqb k 8)))

-- which senses they are
pub sense_1 : sense_of 1 ≡ r1
unfolding sense_of
sense_1 = refl

pub sense_2 : sense_of 2 ≡ r2
unfolding sense_of
sense_2 = refl

pub sense_3 : sense_of 3 ≡ r3
unfolding sense_of
sense_3 = refl

pub sense_8 : sense_of 8 ≡ r8
unfolding sense_of
sense_8 = refl
