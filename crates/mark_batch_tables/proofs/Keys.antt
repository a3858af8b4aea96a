-- The table that has bit b where the hop at place base + b says: none at first, and one bit more at
-- a time. Assumes nothing.
use Prim.Native.Nat.{ℕ, ◌+◌, ◌^◌, ◌<◌, ◌≤◌}
use mathlib.Core.Path.{◌≡◌, refl, sym, ap, ◌∙◌}
use mathlib.Core.Bool.{Bool, true, false, ◌&&◌, ◌||◌}
use mathlib.Core.List.{List}
use mathlib.Core.Logic.{◌⊎◌, inl, inr}
use native.Mathlib.Omega.{arith}
use borrow.Author.Tests.{lt-ltb, le-ltb, eq-eqb, ne_eqb}
use lib.Bits.{bit_or}
use lib.Dec.{eqb, ltb}
use lib.ListN.{length, get_or, set, replicate, length-set}
use Rattle.base_bounded.proofs.Bools.{lt_or_le, eq_or_not}
use Rattle.graph.specs.Hops.{count}
use Rattle.graph.specs.Answers.{most_states}
use Rattle.graph.specs.Internal.Key.{number_by_at}
use Rattle.graph.specs.declared.Shape.{Shape}
use Rattle.graph_check.specs.Check.{Admitted}
use Rattle.base_bitset.specs.Internal.Bits.{bit_in}
use Rattle.base_bitset.proofs.Laws.{bit_one, table_none, table_or, or_nothing}
use Rattle.mark_batch_tables.specs.Internal.BatchTables.{KeyTable}
use Rattle.graph.specs.declared.Key.{Key}
use Rattle.graph.specs.declared.Key.TheVariants.{From, Label, To}

eqb_swap : (a b : ℕ) → eqb a b ≡ eqb b a
eqb_swap a b = go (eq_or_not a b) where
  go : (a ≡ b) ⊎ (a ≡ b → ⊥) → eqb a b ≡ eqb b a
  go (inl e) = eq-eqb a b e ∙ sym (eq-eqb b a (sym e))
  go (inr n) = ne_eqb a b n ∙ sym (ne_eqb b a (λ e. n (sym e)))

and_false : (x : Bool) → (x && false) ≡ false
and_false true = refl
and_false false = refl

and_true : (x : Bool) → (x && true) ≡ x
and_true true = refl
and_true false = refl

-- a key is a place of a table
pub key_in : {sh : Shape} {hs : List ℕ} → Admitted sh hs → (key : Key) {i : ℕ} → i < count hs → number_by_at key hs i < most_states
key_in a From {i} l = omega (arith, a.range.from_in i l, a.states_most)
key_in a Label {i} l = omega (arith, a.range.label_in i l, a.labels_most)
key_in a To {i} l = omega (arith, a.range.to_in i l, a.states_most)

-- a bit put leaves the table as long as it was
pub put_length : (ws : List ℕ) (at b : ℕ) {new : List ℕ} → new ≡ set ws at (bit_or (get_or ws at 0) (2 ^ b)) → length new ≡ length ws
put_length ws at b e = ap length e ∙ length-set ws at (bit_or (get_or ws at 0) (2 ^ b))

module _ (key : ℕ → ℕ) (base : ℕ) where
  pub key_table_none : (n : ℕ) (ws : List ℕ) → ws ≡ replicate n 0 → KeyTable key base 0 ws
  key_table_none n ws e s b = rw (e, le-ltb b 0 (omega arith)) (table_none n s b)

  -- one bit more
  module _ (m : ℕ) (ws new : List ℕ) (at : ℕ) (k : KeyTable key base m ws) (here : at ≡ key (base + m)) (l : at < length ws)
      (e : new ≡ set ws at (bit_or (get_or ws at 0) (2 ^ m))) where
    turn : (s b : ℕ) → bit_in new s b ≡ ((ltb b m && eqb (key (base + b)) s) || (eqb s at && eqb b m))
    turn s b =
        ap (λ (l : List ℕ). bit_in l s b) e ∙ table_or ws at (2 ^ m) s b l ∙
        ap (λ (x : Bool). bit_in ws s b || (eqb s at && x)) (bit_one m b) ∙ ap (λ (x : Bool). x || (eqb s at && eqb b m)) (k s b)

    pub key_table_more : KeyTable key base (m + 1) new
    key_table_more s b = turn s b ∙ go (lt_or_le b m) (eq_or_not b m) where
      go : (b < m) ⊎ (m ≤ b) → (b ≡ m) ⊎ (b ≡ m → ⊥) →
          ((ltb b m && eqb (key (base + b)) s) || (eqb s at && eqb b m)) ≡ (ltb b (m + 1) && eqb (key (base + b)) s)
      go (inl l) q = rw (lt-ltb b m l, lt-ltb b (m + 1) (omega arith), ne_eqb b m (λ e. omega arith), and_false (eqb s at)) (or_nothing (eqb (key (base + b)) s))
      go (inr l) (inl q) =
          rw (le-ltb b m l, lt-ltb b (m + 1) (omega arith), eq-eqb b m q)
          (and_true (eqb s at) ∙ eqb_swap s at ∙ ap (λ (x : ℕ). eqb x s) (here ∙ ap (λ (x : ℕ). key (base + x)) (sym q)))
      go (inr l) (inr n) = rw (le-ltb b m l, le-ltb b (m + 1) (omega arith), ne_eqb b m n) (and_false (eqb s at))
