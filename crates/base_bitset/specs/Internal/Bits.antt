-- Bitsets: words of 64 bits as sets of numbers below 64, and tables of words. Assumes nothing:
-- these are definitions.
use Rattle.std.specs.Prelude.{ℕ, ◌/◌, ◌%◌, ◌^◌, Bool, List, get_or, eqb}

-- bit b of the word is 1
unfoldable pub bit_at : ℕ → ℕ → Bool
bit_at w b = eqb (w / 2 ^ b % 2) 1

-- bit b of the word at place s of a table is 1
unfoldable pub bit_in : List ℕ → ℕ → ℕ → Bool
bit_in ws s b = bit_at (get_or ws s 0) b

-- how many bits a word has
abbrev pub word_bits : ℕ
word_bits = 64
