-- Laws of tables of flags of any kind, by what each flag stands for: a flag that is read, and yes
-- written for the states that have it in another table. Assumes nothing.
use Prim.Native.Nat.{ℕ, ◌+◌, ◌<◌}
use mathlib.Core.Path.{◌≡◌, sym, ap, ◌∙◌}
use mathlib.Core.Bool.{Bool, true, false, ◌||◌}
use mathlib.Core.List.{List, map}
use mathlib.Core.Logic.{⊎_elim}
use native.Mathlib.Omega.{arith}
use lib.ListN.{length, get_or, set}
use Rattle.std.proofs.lemmas.List.{get_or-map, length-map, map-set}
use Rattle.base_bounded.proofs.Bools.{eq_or_not, or_left}
use Rattle.walk_reach.specs.Internal.Frontier.{visited}
use Rattle.walk_reach.proofs.Frontier.{visited_set_same, visited_set_other}

module _ {F : Type 0} (raised : F → Bool) where
  -- what is read at t
  pub raised_at : (xs : List F) (t : ℕ) (x : F) → t < length xs → x ≡ get_or xs t x → raised x ≡ visited (map raised xs) t
  unfolding visited
  raised_at xs t x l e = ap raised e ∙ sym (get_or-map raised xs t x false l)

  -- yes written at s
  module _ (xs : List F) (s : ℕ) (y : F) (yes : raised y ≡ true) where
    raised_set_same : s < length xs → visited (map raised (set xs s y)) s ≡ true
    raised_set_same l = rw (map-set raised xs s y, yes) (visited_set_same (map raised xs) s (rw (length-map xs raised) l))

    pub raised_set_other : (t : ℕ) → (t ≡ s → ⊥) → visited (map raised (set xs s y)) t ≡ visited (map raised xs) t
    raised_set_other t f = rw (map-set raised xs s y, yes) (visited_set_other (map raised xs) s t f)

    -- up to s, yes stands where it did and where the other table has it
    pub put_more : (flags : List Bool) (old : List F) → s < length xs → visited flags s ≡ true →
        ((t : ℕ) → t < s → visited (map raised xs) t ≡ (visited flags t || visited (map raised old) t)) →
        (t : ℕ) → t < s + 1 → visited (map raised (set xs s y)) t ≡ (visited flags t || visited (map raised old) t)
    put_more flags old l e p t m =
        ⊎_elim (λ q. rw q (raised_set_same l ∙ sym (or_left (visited (map raised old) s) e))) (λ f. raised_set_other t f ∙ p t (omega arith)) (eq_or_not t s)

  pub put_over : (xs old : List F) (s : ℕ) (flags : List Bool) → visited flags s ≡ false → visited (map raised xs) s ≡ visited (map raised old) s →
      ((t : ℕ) → t < s → visited (map raised xs) t ≡ (visited flags t || visited (map raised old) t)) →
      (t : ℕ) → t < s + 1 → visited (map raised xs) t ≡ (visited flags t || visited (map raised old) t)
  put_over xs old s flags e kept p t m = ⊎_elim (λ q. rw q (kept ∙ sym (ap (λ (b : Bool). b || visited (map raised old) s) e))) (λ f. p t (omega arith)) (eq_or_not t s)
