-- The file of documents 01 and 02, as it is read (decoded): "All numbers are 16-bit, low byte
-- first". Where a field ends is said as if the file went on, a missing byte reading 0; row 11 is
-- that the file is shorter than this. Assumes nothing: these are definitions.
use Rattle.std.specs.Prelude.{ℕ, ◌+◌, ◌-◌, ◌/◌, ◌%◌, Bool, cond, ◌&&◌, ◌||◌, List, Option, Some, None, get_or, take, drop, eqb, leb}
use Rattle.graph.specs.declared.Shape.{Shape}
use Rattle.file_numbers.specs.Numbers.{number_at}
use Rattle.file_lines.specs.LineField.{lines_length, zero_lines}
use Rattle.file_hops.specs.Field.{field_length, hops_in_field}
use Rattle.file_names.specs.Block.{name_at}

-- "Byte 0 is a bit map: bit 0 initial state, bit 1 hops, bit 2 names"; "bit 3 stands for a list of
-- lines"
abbrev pub bit_map : List ℕ → ℕ
bit_map b = get_or b 0 0

unfoldable pub has_initial : List ℕ → Bool
has_initial b = eqb (bit_map b % 2) 1

unfoldable pub has_hops : List ℕ → Bool
has_hops b = eqb (bit_map b / 2 % 2) 1

unfoldable pub has_names : List ℕ → Bool
has_names b = eqb (bit_map b / 4 % 2) 1

unfoldable pub has_lines : List ℕ → Bool
has_lines b = eqb (bit_map b / 8 % 2) 1

-- "Then state count and label count, always; then, only where its bit stands: the initial state;
-- the hop count with six bytes a hop"; "Absent means initial state 0, no hops, no names"
abbrev pub states_place : ℕ
states_place = 1

abbrev pub labels_place : ℕ
labels_place = 3

abbrev pub initial_place : ℕ
initial_place = 5

abbrev pub states_in : List ℕ → ℕ
states_in b = number_at b states_place

abbrev pub labels_in : List ℕ → ℕ
labels_in b = number_at b labels_place

unfoldable pub initial_in : List ℕ → ℕ
initial_in b = cond (has_initial b) (number_at b initial_place) 0

unfoldable pub hops_place : List ℕ → ℕ
hops_place b = cond (has_initial b) (initial_place + 2) initial_place

unfoldable pub hops_in : List ℕ → ℕ
hops_in b = cond (has_hops b) (number_at b (hops_place b)) 0

unfoldable pub names_place : List ℕ → ℕ
names_place b = hops_place b + cond (has_hops b) (field_length (hops_in b)) 0

-- "for labels 1 upward": none for label counts 0 and 1
unfoldable pub names_in : List ℕ → ℕ
names_in b = cond (has_names b) (labels_in b - 1) 0

-- what follows the hops
unfoldable pub rest_of : List ℕ → List ℕ
rest_of b = drop (names_place b) b

-- "a list of lines, one number a hop, after the names": where the names end, and how many bytes
-- follow
unfoldable pub lines_place : List ℕ → ℕ
lines_place b = names_place b + name_at (rest_of b) (names_in b)

unfoldable pub line_bytes_in : List ℕ → ℕ
line_bytes_in b = cond (has_lines b) (lines_length (hops_in b)) 0

-- where the lines begin, and none where there are none
unfoldable pub lines_in : List ℕ → Option ℕ
lines_in b = cond (has_lines b) (Some (lines_place b)) None

-- the length that the file's own numbers ask
unfoldable pub needed_length : List ℕ → ℕ
needed_length b = lines_place b + line_bytes_in b

-- "Reading gives the graph and the place and length of the name block (0 and 0 without names)"
unfoldable pub shape_in : List ℕ → Shape
shape_in b = record { states = states_in b; labels = labels_in b; initial = initial_in b }

unfoldable pub hop_list_in : List ℕ → List ℕ
hop_list_in b = hops_in_field b (hops_place b) (lines_in b) (hops_in b)

unfoldable pub block_place : List ℕ → ℕ
block_place b = cond (has_names b) (names_place b) 0

unfoldable pub block_length : List ℕ → ℕ
block_length b = cond (has_names b) (lines_place b - names_place b) 0

-- the block itself
unfoldable pub block_in : List ℕ → List ℕ
block_in b = take (block_length b) (drop (block_place b) b)

-- row 12: "a bit over a field that holds what absence means (0, no hops, or names with label count
-- at most 1)", and "bit 3 .. over lines all 0"
unfoldable pub redundant_bit : List ℕ → Bool
redundant_bit b =
    (has_initial b && eqb (initial_in b) 0) ||
    ((has_hops b && eqb (hops_in b) 0) || ((has_names b && leb (labels_in b) 1) || (has_lines b && zero_lines b (lines_place b) (hops_in b))))
