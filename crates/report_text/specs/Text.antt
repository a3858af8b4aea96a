-- Printed text as bytes: numbers in decimal, lines of a word and numbers, lines one behind the
-- other, and what it is to put a text into a buffer. Assumes nothing: these are definitions.
use Rattle.std.specs.Prelude.{ℕ, zero, suc, ◌+◌, ◌/◌, ◌%◌, cond, List, [], ◌∷◌, ◌++◌, ltb}

-- the last k digits of a number at most, and no zero in front (48 is the digit 0)
unfoldable pub digits : ℕ → ℕ → List ℕ
digits zero n = []
digits (suc k) n = cond (ltb n 10) ((48 + n) ∷ []) (digits k (n / 10) ++ ((48 + n % 10) ∷ []))

-- 20 digits hold any 64-bit number
unfoldable pub decimal : ℕ → List ℕ
decimal n = digits 20 n

-- a space and a number
unfoldable pub spaced : ℕ → List ℕ
spaced n = 32 ∷ decimal n

-- each number behind a space
unfoldable pub spaced_numbers : List ℕ → List ℕ
spaced_numbers [] = []
spaced_numbers (n ∷ ns) = spaced n ++ spaced_numbers ns

-- a line: a word, then the numbers, then a line feed
unfoldable pub text_line : List ℕ → List ℕ → List ℕ
text_line word ns = word ++ (spaced_numbers ns ++ (10 ∷ []))

-- the words of the lines
abbrev pub in_word : List ℕ
in_word = 105 ∷ 110 ∷ []

abbrev pub marked_word : List ℕ
marked_word = 109 ∷ 97 ∷ 114 ∷ 107 ∷ 101 ∷ 100 ∷ []

abbrev pub map_word : List ℕ
map_word = 109 ∷ 97 ∷ 112 ∷ []

abbrev pub out_word : List ℕ
out_word = 111 ∷ 117 ∷ 116 ∷ []

abbrev pub hop_word : List ℕ
hop_word = 104 ∷ 111 ∷ 112 ∷ []

abbrev pub no_word : List ℕ
no_word = 110 ∷ 111 ∷ []
