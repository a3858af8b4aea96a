-- The hop field of document 01: "the hop count with six bytes a hop". The field begins at a place
-- `at` of the bytes, with its count; its hops are counted from 0. A hop's line does not stand here
-- but in the list of lines. Assumes nothing: these are definitions.
use Rattle.std.specs.Prelude.{ℕ, zero, suc, ◌+◌, ◌*◌, List, [], ◌∷◌, ◌++◌, Option}
use Rattle.graph.specs.Hops.{count, lined_hop, hop_at, flat}
use Rattle.graph.specs.declared.Hop.{Hop}
use Rattle.file_numbers.specs.Numbers.{number_at, number}
use Rattle.file_lines.specs.LineField.{line_in}
use Rattle.base_outputs.specs.Concat.{concat}

-- "six bytes a hop": its from, its label and its to
abbrev pub bytes_a_hop : ℕ
bytes_a_hop = 6

-- how many bytes a field of n hops takes, with its count
abbrev pub field_length : ℕ → ℕ
field_length n = 2 + bytes_a_hop * n

-- where the hop at a place begins
abbrev pub hop_place : ℕ → ℕ → ℕ
hop_place at i = at + 2 + bytes_a_hop * i

-- the hop whose bytes begin at a place of the file, and whose line is l
unfoldable pub hop_from : List ℕ → ℕ → ℕ → Hop
hop_from b p l = lined_hop (number_at b p) (number_at b (p + 2)) (number_at b (p + 4)) l

-- the hop at a place of the field, with its line, where ls is the place at which the list of lines
-- begins, if there is one
abbrev pub hop_in : List ℕ → ℕ → Option ℕ → ℕ → Hop
hop_in b at ls i = hop_from b (hop_place at i) (line_in b ls i)

-- the hops that a function returns for 0, 1, .. below n
unfoldable pub hops_by : ℕ → (ℕ → Hop) → List Hop
hops_by zero f = []
hops_by (suc n) f = hops_by n f ++ (f n ∷ [])

-- the hop list of the field's first n hops
unfoldable pub hops_in_field : List ℕ → ℕ → Option ℕ → ℕ → List ℕ
hops_in_field b at ls n = flat (hops_by n (hop_in b at ls))

-- the bytes of one hop, of each hop of a list, and of the field of a hop list
unfoldable pub hop_bytes : Hop → List ℕ
hop_bytes h = number h.from ++ (number h.label ++ number h.to)

abbrev pub each_hop : List ℕ → List ℕ
each_hop hs = concat (count hs) (λ (i : ℕ). hop_bytes (hop_at hs i))

unfoldable pub field_bytes : List ℕ → List ℕ
field_bytes hs = number (count hs) ++ each_hop hs
