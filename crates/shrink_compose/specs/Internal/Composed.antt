-- What only private functions and proofs cite beside `Composed`. Assumes nothing: this is a
-- definition.
use Rattle.std.specs.Prelude.{ℕ, ◌<◌, List, length}
use Rattle.graph.specs.Map.{mapped}

-- each entry of m is below n
abbrev pub Into : List ℕ → ℕ → Type 0
Into m n = (s : ℕ) → s < length m → mapped m s < n
