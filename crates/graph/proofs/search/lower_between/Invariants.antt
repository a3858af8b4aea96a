-- `graph::search::lower_between` meets its contract: what lies below lo is before the hop, and what
-- lies from hi on is not. Assumes nothing.
use Prim.Native.Nat.{◌-◌, ◌≤◌}
use mathlib.Core.Path.{◌≡◌}
use Rattle.graph.specs.Hops.{count}
use Rattle.graph.specs.Internal.Sum.{sum_of, Narrow}
use Rattle.graph.specs.Internal.Search.{Bracket}
use Rattle.graph.specs.declared.Hop.{Hop}
use Rattle.graph.proofs.search.lower_between.Given as goal

-- the loop knows the hop by its sum alone
abbrev pub invariant-loop-lo : goal.invariant-loop-lo
invariant-loop-lo l = (l.lo ≤ l.hi) × (l.hi ≤ count l.hops) × ((g : Hop) → (l.sought ≡ sum_of g) × Narrow g → Bracket l.hops g l.lo l.hi)

abbrev pub decreases-loop-lo : goal.decreases-loop-lo
decreases-loop-lo l = l.hi - l.lo
