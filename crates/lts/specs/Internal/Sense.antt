-- What only private functions and proofs cite beside `Sense`. Assumes nothing: this is a
-- definition.
use Rattle.std.specs.Prelude.{ℕ}

-- the hops of a graph that are silent
abbrev pub Silent : (ℕ → ℕ → ℕ → Type 0) → ℕ → ℕ → Type 0
Silent Hop s t = Hop s 0 t
