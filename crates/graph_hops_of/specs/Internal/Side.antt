-- The number of a side. Assumes nothing: this is a definition.
use Rattle.std.specs.Prelude.{ℕ, Option, Some, None}
use Rattle.graph_hops_of.specs.declared.Side.{Side}
use Rattle.graph_hops_of.specs.declared.Side.TheVariants.{First, Second}

-- 1 or 2, and 0 for none
abbrev pub side_number : Option Side → ℕ
side_number (Some First) = 1
side_number (Some Second) = 2
side_number None = 0
