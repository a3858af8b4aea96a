-- What only private functions and proofs cite beside `Rows`. Assumes nothing: these are
-- definitions.
use Rattle.std.specs.Prelude.{ℕ, List, get_or}
use Rattle.graph.specs.Hops.{count}
use Rattle.graph.specs.declared.Shape.{Shape}
use Rattle.base_outputs.specs.Concat.{concat}
use Rattle.report_rows.specs.Rows.{hop_line, lines_of, map_line, marked_line}

-- a lent list, by place
abbrev pub by_place : List ℕ → ℕ → ℕ
by_place xs i = get_or xs i 0

-- the lines of the marked hops, of the map of n states and of the short hops, where marks and map
-- are lent as lists
abbrev pub marked_lines : List ℕ → List ℕ → List ℕ
marked_lines hs ms = concat (count hs) (marked_line hs (by_place ms))

abbrev pub map_lines : ℕ → List ℕ → List ℕ
map_lines n m = concat n (map_line (by_place m))

abbrev pub hop_lines : List ℕ → List ℕ
hop_lines short = concat (count short) (hop_line short)

-- the same, where marks and map are lent as lists
abbrev pub lent_lines : Shape → List ℕ → List ℕ → List ℕ → Shape → List ℕ → List ℕ
lent_lines sh hs ms m new short = lines_of sh hs (by_place ms) (by_place m) new short
