-- Laws of 16-bit numbers among bytes. Assumes nothing.
use Prim.Native.Nat.{ℕ, suc, ◌+◌, ◌*◌, ◌/◌, ◌%◌, ◌≤◌}
use mathlib.Core.Path.{◌≡◌, ap, ◌∙◌}
use mathlib.Core.List.{List, ◌∷◌, ◌++◌}
use native.Mathlib.Numerals.{add-one}
use native.Mathlib.Omega.{arith}
use lib.ListN.{length, get_or, drop}
use lib.Seq.{drop-cons, get_or-drop}
use Rattle.file_numbers.specs.Numbers.{number_at, number, Bytes}

-- a number is read from the two bytes that it was written as
pub number_whole : (n : ℕ) → n % 256 + 256 * (n / 256) ≡ n
number_whole n = omega arith

-- a number from the middle
pub number_drop : (b : List ℕ) (n i : ℕ) → number_at b (n + i) ≡ number_at (drop n b) i
number_drop b n i = rw (get_or-drop n b i, get_or-drop n b (i + 1), assoc) where
  assoc : n + (i + 1) ≡ n + i + 1
  assoc = omega arith

-- a number is written as the two bytes that it was read from
pub number_again : (b : List ℕ) → Bytes b → (i : ℕ) → i + 2 ≤ length b → drop i b ≡ number (number_at b i) ++ drop (i + 2) b
number_again b small i l =
    drop-cons b i 0 (omega arith) ∙ ap (get_or b i 0 ∷◌) (drop-cons b (suc i) 0 (omega arith)) ∙ again where
      low_byte : get_or b i 0 ≡ number_at b i % 256
      low_byte = omega (arith, small i, small (i + 1))

      high_byte : get_or b (suc i) 0 ≡ number_at b i / 256
      high_byte = rw (← add-one i) (omega (arith, small i, small (i + 1)))

      past : suc (suc i) ≡ i + 2
      past = omega arith

      again : get_or b i 0 ∷ get_or b (suc i) 0 ∷ drop (suc (suc i)) b ≡ number_at b i % 256 ∷ number_at b i / 256 ∷ drop (i + 2) b
      again = ap (◌∷ (get_or b (suc i) 0 ∷ drop (suc (suc i)) b)) low_byte ∙ ap (λ (x : ℕ). number_at b i % 256 ∷ x ∷ drop (suc (suc i)) b) high_byte ∙ ap (λ (n : ℕ). number_at b i % 256 ∷ number_at b i / 256 ∷ drop n b) past
