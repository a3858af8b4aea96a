-- What a file is answered before its graph is checked: rows 11 to 14. Assumes nothing: these are
-- definitions.
use Rattle.std.specs.Prelude.{ℕ, ◌+◌, ◌-◌, ◌*◌, cond, List, length, leb, ltb}
use Rattle.graph.specs.Answers.{most_labels, most_hops, accepted, refused}
use Rattle.graph.specs.declared.Answer.{Answer}
use Rattle.file_lines.specs.LineField.{lines_length}
use Rattle.file_hops.specs.Field.{field_length}
use Rattle.file_names.specs.Block.{most_name_bytes, name_at, first_bad}
use Rattle.file_fields.specs.Format.{initial_place, bit_map, names_place, names_in, rest_of, needed_length, redundant_bit}

-- "for labels 1 upward"
abbrev pub most_names : ℕ
most_names = most_labels - 1

-- "The longest legal file has 66,536 bytes": the head with an initial state, all hops, a longest
-- name for each label from 1 upward, and all lines
abbrev pub most_bytes : ℕ
most_bytes = initial_place + 2 + field_length most_hops + most_name_bytes * most_names + lines_length most_hops

-- row 14, of the names of the file
unfoldable pub names_answer : List ℕ → Answer
names_answer b =
    cond (ltb (first_bad (rest_of b) (names_in b)) (names_in b)) (refused 14 (names_place b + name_at (rest_of b) (first_bad (rest_of b) (names_in b)))) accepted

-- "reading checks over-length, high bits, 11, left over, the rest of 12, 14"; "12 no longer speaks
-- of bit 3, except over lines all 0"
unfoldable pub format_answer : List ℕ → Answer
format_answer b =
    cond (ltb most_bytes (length b)) (refused 13 most_bytes)
    (cond (leb 16 (bit_map b)) (refused 12 0)
    (cond (ltb (length b) (needed_length b)) (refused 11 (length b))
    (cond (ltb (needed_length b) (length b)) (refused 13 (needed_length b))
    (cond (redundant_bit b) (refused 12 0)
    (names_answer b)))))
