-- What only private functions and proofs cite beside `Lines`. Assumes nothing: this is a
-- definition.
use Rattle.std.specs.Prelude.{ℕ, zero, suc, Bool, cond}
use Rattle.reduce_smallest_line.specs.Lines.{lesser_line}

-- "the smallest nonzero line" among the lines `line i` of the places i below n that pass, "else 0"
unfoldable pub smallest_line : (ℕ → Bool) → (ℕ → ℕ) → ℕ → ℕ
smallest_line pass line zero = 0
smallest_line pass line (suc n) = cond (pass n) (lesser_line (smallest_line pass line n) (line n)) (smallest_line pass line n)
