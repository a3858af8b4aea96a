-- The list of lines of document 02: "In the file, bit 3 stands for a list of lines, one number a
-- hop, after the names." The list begins at a place `at` of the bytes, in the order of the hops,
-- and has no count of its own. Assumes nothing: these are definitions.
use Rattle.std.specs.Prelude.{ℕ, ◌+◌, ◌*◌, Bool, not, List, Option, Some, None, eqb}
use Rattle.base_bounded.specs.Quantifiers.{all, any}
use Rattle.graph.specs.Hops.{count, line_at}
use Rattle.file_numbers.specs.Numbers.{number_at, number}
use Rattle.base_outputs.specs.Concat.{concat}

-- "one number a hop"
abbrev pub bytes_a_line : ℕ
bytes_a_line = 2

-- how many bytes the lines of n hops take
abbrev pub lines_length : ℕ → ℕ
lines_length n = bytes_a_line * n

-- where the line of the hop at a place stands
abbrev pub line_place : ℕ → ℕ → ℕ
line_place at i = at + bytes_a_line * i

-- the line of the hop at a place, of a list that begins at `at`: "0 for none", and none where there
-- is no list
unfoldable pub line_in : List ℕ → Option ℕ → ℕ → ℕ
line_in b None i = 0
line_in b (Some at) i = number_at b (line_place at i)

-- the n lines from a place on are "lines all 0"; no lines are all 0
unfoldable pub zero_lines : List ℕ → ℕ → ℕ → Bool
zero_lines b at n = all n (λ (i : ℕ). eqb (number_at b (line_place at i)) 0)

-- some hop of a hop list has a line
unfoldable pub any_line : List ℕ → Bool
any_line hs = any (count hs) (λ (i : ℕ). not (eqb (line_at hs i) 0))

-- the bytes of the lines of a hop list
unfoldable pub line_list : List ℕ → List ℕ
line_list hs = concat (count hs) (λ (i : ℕ). number (line_at hs i))
