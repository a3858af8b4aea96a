-- "The map gives each old state the new number of its representative": a map is a list, one entry a
-- state. Assumes nothing: this is a definition.
use Rattle.std.specs.Prelude.{ℕ, List, get_or}

-- "map(s)"
-- In the field: a function from the states of one transition system to those of another.
abbrev pub mapped : List ℕ → ℕ → ℕ
mapped m s = get_or m s 0
