-- Parts of the search for the lowest state on a ring. Assumes nothing: these are definitions.
use Rattle.std.specs.Prelude.{ℕ, ◌≡◌, ◌<◌, Bool, ◌&&◌, List, Option, Some, None, eqb}
use Rattle.graph.specs.Hops.{from, label, to}
use Rattle.graph.specs.declared.Shape.{Shape}
use Rattle.graph.specs.declared.OldState.{OldState}
use Rattle.walk_reach.specs.Internal.Frontier.{visited}
use Rattle.walk_silent.specs.Silent.{lowest_on_ring}

-- the hop at place i leads back: silently, from a visited state to s
unfoldable pub leads_back_at : List ℕ → List Bool → ℕ → ℕ → Bool
leads_back_at hs seen s i = (eqb (label hs i) 0 && eqb (to hs i) s) && visited seen (from hs i)

-- the lowest state on a ring, if there is one
abbrev pub IsLowest : Shape → List ℕ → Option OldState → Type 0
IsLowest sh hs (Some s) = (s.0 < sh.states) × (lowest_on_ring sh hs ≡ s.0)
IsLowest sh hs None = lowest_on_ring sh hs ≡ sh.states
