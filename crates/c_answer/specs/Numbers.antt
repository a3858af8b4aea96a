-- The numbers that an entry of the C ABI writes and returns: "answer: number, table, place, then
-- the entry's figures; the return value is the number. An answer too short: 6, and nothing is
-- written." This 6 comes last, as row 6 does. Assumes nothing: these are definitions.
use Rattle.std.specs.Prelude.{ℕ, cond, List, ◌∷◌, ◌++◌, length, drop, eqb, leb}
use Rattle.graph.specs.declared.Shape.{Shape}
use Rattle.graph.specs.declared.Answer.{Answer}

-- a shape from three numbers, which pass through unchanged
abbrev pub shape_of : ℕ → ℕ → ℕ → Shape
shape_of s l i = record { states = s; labels = l; initial = i }

-- the answer's numbers, and the entry's figures after them
abbrev pub numbers_of : Answer → List ℕ → List ℕ
numbers_of a figures = a.number ∷ a.table ∷ a.place ∷ figures

-- what is returned: the entry's number if it refuses, else 0, or 6 for an answer slice too short
-- for n numbers
unfoldable pub returned : Answer → ℕ → ℕ → ℕ
returned a n capacity = cond (eqb a.number 0) (cond (leb n capacity) 0 6) a.number

-- the answer slice afterwards
unfoldable pub answer_after : ℕ → List ℕ → List ℕ → List ℕ
answer_after n numbers old = cond (leb n (length old)) (numbers ++ drop n old) old

-- another lent slice afterwards: what the entry leaves in it, unless the answer slice is too short
unfoldable pub unless_short : ℕ → List ℕ → List ℕ → List ℕ → List ℕ
unless_short n answer new old = cond (leb n (length answer)) new old
