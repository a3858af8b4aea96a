-- That what the audit has to know of two graphs and a map are propositions, so that a value may
-- hold them as ghost fields. Assumes nothing.
use Rattle.std.specs.Prelude.{ℕ, List}
use Rattle.std.proofs.Props.{props}
use Rattle.graph.specs.Order.{Ascending}
use Rattle.graph.specs.declared.Shape.{Shape}
use Rattle.audit_faults.specs.Internal.Images.{Auditable, Imaged}

pub auditable_prop : (sh1 : Shape) (h1 h2 m : List ℕ) → IsProp (Auditable sh1 h1 h2 m)
unfolding Ascending
auditable_prop sh1 h1 h2 m = hlevel props

pub imaged_prop : (h1 h2 m images : List ℕ) → IsProp (Imaged h1 h2 m images)
unfolding Imaged
imaged_prop h1 h2 m images = hlevel props
