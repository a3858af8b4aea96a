-- That what is known of a hop field is a proposition, so that a value may hold it as a ghost field.
-- Assumes nothing.
use Rattle.std.specs.Prelude.{ℕ, List, Option, Some, None}
use Rattle.std.proofs.Props.{props}
use Rattle.file_lines.specs.Internal.LineField.{LinesLie}
use Rattle.file_hops.specs.Internal.Field.{HopsLie}

pub hops_lie_prop : (b : List ℕ) (at n : ℕ) → IsProp (HopsLie b at n)
hops_lie_prop b at n = hlevel props

pub lines_lie_prop : (b : List ℕ) (ls : Option ℕ) (n : ℕ) → IsProp (LinesLie b ls n)
lines_lie_prop b None n = hlevel props
lines_lie_prop b (Some at) n = hlevel props
