-- That the facts of a table of next states are propositions, as a field of a struct has to be.
-- Assumes nothing.
use Rattle.std.specs.Prelude.{ℕ, List}
use Rattle.std.proofs.Props.{props}
use Rattle.reduce_representatives.specs.Internal.Tables.{ClosedTable}

pub closed_table_prop : (n : ℕ) (next : List ℕ) → IsProp (ClosedTable n next)
unfolding ClosedTable
closed_table_prop n next = hlevel props
