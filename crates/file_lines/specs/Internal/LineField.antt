-- What only private functions and proofs cite beside `LineField`. Assumes nothing: this is a
-- definition.
use Rattle.std.specs.Prelude.{ℕ, ◌≤◌, List, Option, Some, None, length}
use Rattle.file_lines.specs.LineField.{line_place}

-- the first n lines of the list, if there is one, lie within the bytes
abbrev pub LinesLie : List ℕ → Option ℕ → ℕ → Type 0
LinesLie b None n = Unit {0}
LinesLie b (Some at) n = line_place at n ≤ length b
