-- Words as sets of bits: the bits of a union and of an intersection of two words, of the word with
-- one bit and of the word with none; that two words with the same bits are equal; and the bits of a
-- table after one of its words was written. Assumes nothing.
use Prim.Native.Nat.{ℕ, ◌/◌, ◌%◌, ◌^◌, ◌<◌, ◌≤◌, min, max}
use mathlib.Core.Path.{◌≡◌, refl, sym, ap, ◌∙◌}
use mathlib.Core.Bool.{Bool, true, false, not, ◌&&◌, ◌||◌}
use mathlib.Core.List.{List}
use mathlib.Core.Logic.{◌⊎◌, inl, inr}
use native.Mathlib.Omega.{arith}
use borrow.Author.Tests.{eq-eqb, ne_eqb, eqb-true}
use lib.Bits.{bit_and, bit_or, and_lt}
use lib.ListN.{length, get_or, set, replicate, length-replicate, get_or-replicate, get_or-eq_default}
use lib.Seq.{get_or-set_same, get_or-set_other}
use lib.Dec.{eqb}
use Rattle.std.proofs.lemmas.Bool.{cases_eq, cases_lt}
use Rattle.std.proofs.lemmas.Bool.Decides.{nat_tests}
use Rattle.std.proofs.lemmas.Nat.Bits.{bit_at-lt, bit_at-zero, bit_at_or, bit_at_and, bit_at-pow_same, bit_at-pow_other, same_from_bits_below}
use Rattle.base_bounded.specs.Quantifiers.{all}
use Rattle.base_bounded.proofs.Bools.{same_test}
use Rattle.base_bounded.proofs.Quantifiers.{all_yes, all_at}
use Rattle.base_bitset.specs.Internal.Bits.{bit_at, bit_in}

-- a digit is 0 or 1: a bit is whether it is 1
or_digit : (x y : ℕ) → x < 2 → y < 2 → eqb (max x y) 1 ≡ (eqb x 1 || eqb y 1)
or_digit x y h l = grind (arith, nat_tests)

and_digit : (x y : ℕ) → x < 2 → y < 2 → eqb (min x y) 1 ≡ (eqb x 1 && eqb y 1)
and_digit x y h l = grind (arith, nat_tests)

digit_same : (x y : ℕ) → x < 2 → y < 2 → eqb x 1 ≡ eqb y 1 → x ≡ y
digit_same x y h l e = grind (arith, nat_tests)

-- union and intersection
pub bit_or_lem : (x y b : ℕ) → bit_at (bit_or x y) b ≡ (bit_at x b || bit_at y b)
unfolding bit_at
bit_or_lem x y b = rw (bit_at_or x y b) (or_digit _ _ (bit_at-lt x b) (bit_at-lt y b))

pub bit_and_lem : (x y b : ℕ) → bit_at (bit_and x y) b ≡ (bit_at x b && bit_at y b)
unfolding bit_at
bit_and_lem x y b = rw (bit_at_and x y b) (and_digit _ _ (bit_at-lt x b) (bit_at-lt y b))

-- none, and one alone
pub bit_none : (b : ℕ) → bit_at 0 b ≡ false
unfolding bit_at
bit_none b = rw (bit_at-zero b)

pub bit_one : (k b : ℕ) → bit_at (2 ^ k) b ≡ eqb b k
unfolding bit_at
bit_one k b = go (cases_eq b k) where
  go : (b ≡ k) ⊎ (b ≡ k → ⊥) → eqb (2 ^ k / 2 ^ b % 2) 1 ≡ eqb b k
  go (inl e) = rw (e, bit_at-pow_same k) (sym (eq-eqb k k refl))
  go (inr d) = rw (bit_at-pow_other k b d) (sym (ne_eqb b k d))

-- two words with the same bits
pub bits_same : (k x y : ℕ) → x < 2 ^ k → y < 2 ^ k → ((b : ℕ) → b < k → bit_at x b ≡ bit_at y b) → x ≡ y
unfolding bit_at
bits_same k x y h l f =
    same_from_bits_below k x y h l (λ b m. digit_same _ _ (bit_at-lt x b) (bit_at-lt y b) (f b m))

-- a word has every bit of another exactly when its intersection with the other is the other
has_cut : (w o : Bool) → (not o || w) ≡ true → (w && o) ≡ o
has_cut true o e = refl
has_cut false false e = refl
has_cut false true e = e

cut_has : (w o : Bool) → (w && o) ≡ o → (not o || w) ≡ true
cut_has true true e = refl
cut_has true false e = refl
cut_has false false e = refl
cut_has false true e = e

pub cut_holds : (k w o : ℕ) → w < 2 ^ k → o < 2 ^ k → eqb (bit_and w o) o ≡ all k (λ (b : ℕ). not (bit_at o b) || bit_at w b)
cut_holds k w o h l = same_test _ _ there back where
  there : eqb (bit_and w o) o ≡ true → all k (λ (b : ℕ). not (bit_at o b) || bit_at w b) ≡ true
  there e =
      all_yes (λ (b : ℕ). not (bit_at o b) || bit_at w b) k
      (λ b m. cut_has (bit_at w b) (bit_at o b) (sym (bit_and_lem w o b) ∙ ap (λ (x : ℕ). bit_at x b) (eqb-true (bit_and w o) o e)))

  back : all k (λ (b : ℕ). not (bit_at o b) || bit_at w b) ≡ true → eqb (bit_and w o) o ≡ true
  back e =
      eq-eqb (bit_and w o) o
      (bits_same k (bit_and w o) o (and_lt k w o h l) l
      (λ b m. bit_and_lem w o b ∙ has_cut (bit_at w b) (bit_at o b) (all_at (λ (b : ℕ). not (bit_at o b) || bit_at w b) k e m)))

-- tables: none of the words has a bit, a place past the end has none
pub table_out : (ws : List ℕ) (s b : ℕ) → length ws ≤ s → bit_in ws s b ≡ false
unfolding bit_in
table_out ws s b h = rw (get_or-eq_default ws 0 h) (bit_none b)

pub table_none : (n s b : ℕ) → bit_in (replicate n 0) s b ≡ false
unfolding bit_in
table_none n s b = go (cases_lt s n) where
  go : (s < n) ⊎ (n ≤ s) → bit_at (get_or (replicate n 0) s 0) b ≡ false
  go (inl l) = rw (get_or-replicate {A = ℕ} n s 0 0 l) (bit_none b)
  go (inr l) = table_out (replicate n 0) s b (rw (length-replicate {A = ℕ} n 0) l)

-- one word written: its place has the word's bits, the others have what they had
module _ (ws : List ℕ) (s w : ℕ) where
  pub table_same : (b : ℕ) → s < length ws → bit_in (set ws s w) s b ≡ bit_at w b
  unfolding bit_in
  table_same b l = rw (get_or-set_same ws s w 0 l)

  pub table_other : (t b : ℕ) → (t ≡ s → ⊥) → bit_in (set ws s w) t b ≡ bit_in ws t b
  unfolding bit_in
  table_other t b n = rw (get_or-set_other ws s t w 0 n)

-- a test or false is the test; a word of a table has the table's bits
pub or_nothing : (x : Bool) → (x || false) ≡ x
or_nothing true = refl
or_nothing false = refl

pub word_of : (ws : List ℕ) (s b : ℕ) → bit_at (get_or ws s 0) b ≡ bit_in ws s b
unfolding bit_in
word_of ws s b = refl

-- a word's bits added to those at one place
pub table_or : (ws : List ℕ) (s w t b : ℕ) → s < length ws → bit_in (set ws s (bit_or (get_or ws s 0) w)) t b ≡ (bit_in ws t b || (eqb t s && bit_at w b))
table_or ws s w t b l = go (cases_eq t s) where
  go : (t ≡ s) ⊎ (t ≡ s → ⊥) → bit_in (set ws s (bit_or (get_or ws s 0) w)) t b ≡ (bit_in ws t b || (eqb t s && bit_at w b))
  go (inl e) = rw (e, eq-eqb s s refl) (table_same ws s (bit_or (get_or ws s 0) w) b l ∙ bit_or_lem (get_or ws s 0) w b ∙ ap (λ (x : Bool). x || bit_at w b) (word_of ws s b))
  go (inr n) = rw (ne_eqb t s n) (table_other ws s (bit_or (get_or ws s 0) w) t b n ∙ sym (or_nothing (bit_in ws t b)))
