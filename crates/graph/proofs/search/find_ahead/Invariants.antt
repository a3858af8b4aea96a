-- What lies below `at` is before the hop.
use Rattle.std.proofs.Common.{◌≡◌}
use Rattle.graph.specs.Internal.Sum.{sum_of, Narrow}
use Rattle.graph.specs.Internal.Search.{Bracket}
use Rattle.graph.specs.declared.Hop.{Hop}
use Rattle.graph.proofs.search.find_ahead.Given as goal

-- the loop knows the hop by its sum alone
abbrev pub invariant-loop-at : goal.invariant-loop-at
invariant-loop-at l = (g : Hop) → (l.sought ≡ sum_of g) × Narrow g → Bracket l.hops g l.at l.past
