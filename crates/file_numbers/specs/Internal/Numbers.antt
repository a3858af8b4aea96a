-- What only private functions and proofs cite beside `Numbers`. Assumes nothing: this is a
-- definition.
use Rattle.std.specs.Prelude.{ℕ}

-- the largest number
abbrev pub most_number : ℕ
most_number = 65535
