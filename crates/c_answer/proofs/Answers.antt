-- What is returned where the answer slice is too short or long enough. Assumes nothing.
use Prim.Native.Nat.{ℕ, ◌<◌, ◌≤◌}
use mathlib.Core.Path.{◌≡◌, refl, sym}
use mathlib.Core.Bool.{Bool, true, false, cond}
use borrow.Author.Tests.{le-leb, lt-leb, eq-eqb, ne_eqb, eqb-true}
use lib.Dec.{eqb, leb}
use Rattle.graph.specs.declared.Answer.{Answer}
use Rattle.c_answer.specs.Numbers.{returned}

module _ (a : Answer) (n capacity : ℕ) where
  -- too short: 6, unless the entry refuses
  pub short_six : capacity < n → a.number ≡ 0 → returned a n capacity ≡ 6
  unfolding returned
  short_six l e = rw (eq-eqb _ _ e, lt-leb n capacity l)

  pub refusal_returns : (a.number ≡ 0 → ⊥) → returned a n capacity ≡ a.number
  unfolding returned
  refusal_returns e = rw (ne_eqb _ _ e)

  pub long_returns : n ≤ capacity → returned a n capacity ≡ a.number
  unfolding returned
  long_returns l = go (eqb a.number 0) refl where
    go : (x : Bool) → eqb a.number 0 ≡ x → cond x (cond (leb n capacity) 0 6) a.number ≡ a.number
    go true e = rw (le-leb n capacity l) (sym (eqb-true _ _ e))
    go false e = refl

-- for `using`: what is returned, the answer slice being too short or long enough
pub ruleset returns_number = (short_six, refusal_returns, long_returns)

-- the answer that stands in one of two results, of which the first is taken by a test
pub either_answer : {A : Type 0} (answer : A → Answer) (x : Bool) (r q : A) {a : Answer} → (x ≡ true → answer r ≡ a) → answer q ≡ a →
    answer (cond x r q) ≡ a
either_answer answer true r q e d = e refl
either_answer answer false r q e d = d
