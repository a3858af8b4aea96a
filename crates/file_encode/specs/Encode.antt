-- The file of documents 01 and 02, as it is written (encoded). A bit is set only over what absence
-- does not mean. Assumes nothing: these are definitions.
use Rattle.std.specs.Prelude.{ℕ, ◌+◌, cond, List, [], ◌∷◌, ◌++◌, length, eqb}
use Rattle.graph.specs.Hops.{count}
use Rattle.graph.specs.declared.Shape.{Shape}
use Rattle.file_numbers.specs.Numbers.{number}
use Rattle.file_lines.specs.LineField.{any_line, line_list}
use Rattle.file_hops.specs.Field.{field_bytes}

-- "Byte 0 is a bit map: bit 0 initial state, bit 1 hops, bit 2 names"; "Absent means initial state
-- 0, no hops, no names"; "bit 3 stands for a list of lines", where some line is not 0
unfoldable pub bits_of : Shape → List ℕ → List ℕ → ℕ
bits_of sh hs ns = cond (eqb sh.initial 0) 0 1 + cond (eqb (count hs) 0) 0 2 + cond (eqb (length ns) 0) 0 4 + cond (any_line hs) 8 0

-- "only where its bit stands: the initial state"
unfoldable pub initial_bytes : Shape → List ℕ
initial_bytes sh = cond (eqb sh.initial 0) [] (number sh.initial)

-- "the hop count with six bytes a hop"
unfoldable pub hops_bytes : List ℕ → List ℕ
hops_bytes hs = cond (eqb (count hs) 0) [] (field_bytes hs)

-- "a list of lines, one number a hop"
unfoldable pub lines_bytes : List ℕ → List ℕ
lines_bytes hs = cond (any_line hs) (line_list hs) []

-- "Then state count and label count, always"
unfoldable pub head_bytes : Shape → ℕ → List ℕ
head_bytes sh bits = bits ∷ (number sh.states ++ number sh.labels)

-- the lines stand "after the names"
unfoldable pub encode : Shape → List ℕ → List ℕ → List ℕ
encode sh hs ns = head_bytes sh (bits_of sh hs ns) ++ (initial_bytes sh ++ (hops_bytes hs ++ (ns ++ lines_bytes hs)))
