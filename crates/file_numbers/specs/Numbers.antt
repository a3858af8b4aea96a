-- Numbers among the bytes of a file (little-endian): "All numbers are 16-bit, low byte first". A
-- missing byte reads 0. Assumes nothing: these are definitions.
use Rattle.std.specs.Prelude.{ℕ, ◌+◌, ◌*◌, ◌/◌, ◌%◌, ◌<◌, List, [], ◌∷◌, get_or}

-- the number at a place
abbrev pub number_at : List ℕ → ℕ → ℕ
number_at b i = get_or b i 0 + 256 * get_or b (i + 1) 0

-- the bytes of a number
abbrev pub number : ℕ → List ℕ
number n = n % 256 ∷ n / 256 ∷ []

-- bytes are below 256
abbrev pub Bytes : List ℕ → Type 0
Bytes b = (i : ℕ) → get_or b i 0 < 256
