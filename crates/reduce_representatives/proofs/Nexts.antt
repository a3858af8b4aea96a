-- The table of next states, filled from the last hop to the first, holds where the first hop of
-- each state in the set leads; a walk by the table is a walk along these hops. Assumes nothing.
use Prim.Native.Nat.{ℕ, zero, suc, ◌+◌, ◌-◌, ◌<◌, ◌≤◌}
use mathlib.Core.Path.{◌≡◌, refl, sym, ap, ◌∙◌, subst}
use mathlib.Core.Bool.{Bool, true, false, cond, ◌&&◌}
use mathlib.Core.List.{List}
use mathlib.Core.Logic.{⊎_elim}
use native.Mathlib.Nat.{eq-or-lt_of_le}
use native.Mathlib.Omega.{arith}
use borrow.Author.Tests.{eq-eqb, ne_eqb}
use lib.ListN.{length, get_or, set, length-set}
use lib.Seq.{get_or-set_same, get_or-set_other}
use lib.Dec.{eqb}
use Rattle.std.proofs.lemmas.Bool.{and_from, and_left, and_right, cases_eq, not_from_false, not_from_true}
use Rattle.graph.specs.Hops.{count, from, label, to}
use Rattle.base_bounded.proofs.Quantifiers.{any_no, any_found, least_is}
use Rattle.base_fixpoint.specs.Pairs.{Pairs}
use Rattle.mark_confluence.specs.Internal.MarkSet.{is_marked}
use Rattle.reduce_representatives.specs.Representative.{marked_from, is_normal, next_state}
use Rattle.reduce_representatives.specs.Internal.Tables.{ClosedTable, with_next, table_steps}
use Rattle.reduce_representatives.proofs.NormalForm.{rests_next_state, moves_next_state}

-- none of the places from i on and before k has a hop of s in u
abbrev None : List ℕ → Pairs → ℕ → ℕ → ℕ → Type 0
None hs u s i k = (j : ℕ) → i ≤ j → j < k → marked_from hs u s j ≡ false

-- v is where the first hop of s in u from place i on leads, or s itself
pub data Ends (hs : List ℕ) (u : Pairs) (s i v : ℕ) : Type 0 where
  none : None hs u s i (count hs) → v ≡ s → Ends hs u s i v
  some : (k : ℕ) → i ≤ k → k < count hs → marked_from hs u s k ≡ true → None hs u s i k → v ≡ to hs k → Ends hs u s i v

module _ (hs : List ℕ) (u : Pairs) where
  pub ends_none : (s v : ℕ) → v ≡ s → Ends hs u s (count hs) v
  ends_none s v e = none (λ j l m. absurd (omega arith)) e

  pub ends_next_state : {s v : ℕ} → Ends hs u s 0 v → v ≡ next_state hs u s
  unfolding is_normal
  ends_next_state {s} (none f e) =
      e ∙ sym (rests_next_state hs u s (not_from_false _ (any_no (marked_from hs u s) (count hs) (λ j l. f j (omega arith) l))))
  ends_next_state {s} (some k l m p f e) =
      e ∙ sym (moves_next_state hs u s (not_from_true _ (any_found (marked_from hs u s) (count hs) m p)) ∙
      ap (to hs) (least_is (marked_from hs u s) (count hs) k (omega arith) (λ j i. f j (omega arith) i) (λ _. p)))

  module _ (i : ℕ) (inside : i < count hs) where
    -- one place more
    none_more : (s k : ℕ) → None hs u s (suc i) k → marked_from hs u s i ≡ false → None hs u s i k
    none_more s k f e j l m = ⊎_elim (λ q. ap (marked_from hs u s) (sym q) ∙ e) (λ n. f j n m) (eq-or-lt_of_le l)

    ends_skip : {s v : ℕ} → Ends hs u s (suc i) v → marked_from hs u s i ≡ false → Ends hs u s i v
    ends_skip {s} (none f e) d = none (none_more s _ f d) e
    ends_skip {s} (some k l m p f e) d = some k (omega arith) m p (none_more s k f d) e

    ends_take : {s : ℕ} → marked_from hs u s i ≡ true → Ends hs u s i (to hs i)
    ends_take p = some i (omega arith) inside p (λ j l m. absurd (omega arith)) refl

    module _ (ms next : List ℕ) (mark : is_marked ms i ≡ (eqb (label hs i) 0 && u (from hs i) (to hs i))) (capacity : from hs i < length next) where
      pub entered_ends : (s : ℕ) → Ends hs u s (suc i) (get_or next s 0) → Ends hs u s i (get_or (with_next hs ms i next) s 0)
      unfolding with_next marked_from
      entered_ends s old = go (eqb (label hs i) 0 && u (from hs i) (to hs i)) refl where
        go : (x : Bool) → (eqb (label hs i) 0 && u (from hs i) (to hs i)) ≡ x → Ends hs u s i (get_or (cond (is_marked ms i) (set next (from hs i) (to hs i)) next) s 0)
        go false e = rw (mark, e) (ends_skip old (and_right (eqb (from hs i) s) _ e))
        go true e = rw (mark, e) (⊎_elim here there (cases_eq s (from hs i))) where
          here : s ≡ from hs i → Ends hs u s i (get_or (set next (from hs i) (to hs i)) s 0)
          here q =
              subst (λ (v : ℕ). Ends hs u s i v) (sym (ap (λ (x : ℕ). get_or (set next (from hs i) (to hs i)) x 0) q ∙ get_or-set_same next (from hs i) (to hs i) 0 capacity))
              (ends_take (and_from _ _ (eq-eqb _ _ (sym q)) e))

          there : (s ≡ from hs i → ⊥) → Ends hs u s i (get_or (set next (from hs i) (to hs i)) s 0)
          there q =
              subst (λ (v : ℕ). Ends hs u s i v) (sym (get_or-set_other next (from hs i) s (to hs i) 0 q))
              (ends_skip old (and_left _ _ (ne_eqb _ _ (λ p. q (sym p)))))

-- the table stays as long as it is
pub length_entered : (hs ms : List ℕ) (i : ℕ) (next : List ℕ) {new : List ℕ} {n : ℕ} → new ≡ with_next hs ms i next → length next ≡ n → length new ≡ n
unfolding with_next
length_entered hs ms i next e l = ap length e ∙ go (is_marked ms i) ∙ l where
  go : (x : Bool) → length (cond x (set next (from hs i) (to hs i)) next) ≡ length next
  go true = length-set next (from hs i) (to hs i)
  go false = refl

-- walks by a table
module _ (next : List ℕ) where
  pub table_steps_rest : (k s : ℕ) → get_or next s 0 ≡ s → table_steps next k s ≡ s
  unfolding table_steps
  table_steps_rest zero s e = refl
  table_steps_rest (suc k) s e = rw e (table_steps_rest k s e)

  pub table_steps_on : (n k s : ℕ) → k < n → table_steps next (n - k) s ≡ table_steps next (n - (k + 1)) (get_or next s 0)
  unfolding table_steps
  table_steps_on n k s l = ap (λ (m : ℕ). table_steps next m s) one_less where
    one_less : n - k ≡ suc (n - (k + 1))
    one_less = omega arith

  pub table_steps_done : (n k s : ℕ) → n ≤ k → table_steps next (n - k) s ≡ s
  unfolding table_steps
  table_steps_done n k s l = let q : n - k ≡ 0 = omega arith in rw q

  pub table_steps_in : (n : ℕ) → ClosedTable n next → (k s : ℕ) → s < n → table_steps next k s < n
  unfolding table_steps ClosedTable
  table_steps_in n f zero s l = l
  table_steps_in n f (suc k) s l = table_steps_in n f k (get_or next s 0) (f s l)
