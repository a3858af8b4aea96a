-- What only private functions and proofs cite beside `Rows`. Assumes nothing: this is a definition.
use Rattle.std.specs.Prelude.{ℕ, ◌<◌, ◌≤◌, ◌≡◌, List, length}
use Rattle.file_fields.specs.Format.{bit_map, names_place, rest_of}
use Rattle.file_format.specs.Rows.{most_bytes}

-- what is known where the first two have passed and the hops end within the file: `rest` is what
-- follows them
pub record RestAt (b rest : List ℕ) (place : ℕ) : Type 0 where
  pub short : length b ≤ most_bytes
  pub low : bit_map b < 16
  pub begins : place ≡ names_place b
  pub follows : rest ≡ rest_of b
  pub within : place ≤ length b
