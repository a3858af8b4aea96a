-- What only private functions and proofs cite beside `Output`. Assumes nothing: this is a
-- definition.
use Rattle.std.specs.Prelude.{ℕ, ◌+◌, List, ◌++◌, length, take, drop}

-- the list new from place `at` on, and around it what was there
abbrev pub over_at : {A : Type 0} → ℕ → List A → List A → List A
over_at at new old = take at old ++ (new ++ drop (at + length new) old)
