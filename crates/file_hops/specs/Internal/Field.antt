-- What only private functions and proofs cite beside `Field`. Assumes nothing: this is a
-- definition.
use Rattle.std.specs.Prelude.{ℕ, ◌+◌, ◌<◌, ◌≤◌, List, length}
use Rattle.file_hops.specs.Field.{hop_place}

-- the first n hops lie within the bytes
abbrev pub HopsLie : List ℕ → ℕ → ℕ → Type 0
HopsLie b at n = (i : ℕ) → i < n → hop_place at (i + 1) ≤ length b
