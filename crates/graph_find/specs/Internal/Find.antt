-- What only private functions and proofs cite beside `Find`. Assumes nothing: this is a definition.
use Rattle.std.specs.Prelude.{ℕ, cond, ltb}

-- the number in 16 bits by which x is sought: any from 65,535 on stands behind every number of an
-- admitted graph
unfoldable pub saturated : ℕ → ℕ
saturated x = cond (ltb x 65535) x 65535
