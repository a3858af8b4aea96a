-- A place below a bound, where there is one. Assumes nothing: this is a definition.
use Rattle.std.specs.Prelude.{ℕ, cond, Option, Some, None, ltb}

-- the place, or none where it is not below the bound: `least` gives the bound where nothing passes
abbrev pub place_below : ℕ → ℕ → Option ℕ
place_below n i = cond (ltb i n) (Some i) None
