-- That what an admitted graph is known by is a proposition, so that a value may hold it as a ghost
-- field. Assumes nothing.
use Rattle.std.specs.Prelude.{ℕ, List}
use Rattle.std.proofs.Props.{props}
use Rattle.graph.specs.Order.{Ascending}
use Rattle.graph.specs.declared.Shape.{Shape}
use Rattle.graph_check.specs.Check.{Admitted}

pub admitted_prop : (sh : Shape) (hs : List ℕ) → IsProp (Admitted sh hs)
unfolding Ascending
admitted_prop sh hs = hlevel props
