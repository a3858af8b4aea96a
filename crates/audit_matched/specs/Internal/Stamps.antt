-- Which hops of graph 2 get a stamp: from a state of graph 1, the hops of the states that it leads
-- to stamp hops of graph 2, at the places that a table has for them. Assumes nothing: these are
-- definitions.
use Rattle.std.specs.Prelude.{ℕ, ◌<◌, ◌≡◌, Bool, cond, ◌&&◌, List, get_or, eqb}
use Rattle.base_bounded.specs.Quantifiers.{any}
use Rattle.graph.specs.Hops.{count, from, label, to, is}
use Rattle.graph.specs.Map.{mapped}
use Rattle.walk_reach.specs.Internal.Frontier.{visited}

-- the hop at place i of graph 1 leaves a state that is visited, by `seen`, and whose map is r
unfoldable pub seen_in_class : List ℕ → List ℕ → List Bool → ℕ → ℕ → Bool
seen_in_class h1 m seen r i = visited seen (from h1 i) && eqb (mapped m (from h1 i)) r

-- .. and it is the hop at place j of graph 2
unfoldable pub stamps_hop : List ℕ → List ℕ → List ℕ → List Bool → ℕ → ℕ → ℕ → Bool
stamps_hop h1 h2 m seen r j i = seen_in_class h1 m seen r i && is h2 r (label h1 i) (mapped m (to h1 i)) j

-- after the first n hops of graph 1 the stamp k stands at the places that they stamp, and every
-- other stamp is as it was
unfoldable pub StampedUpTo : List ℕ → List ℕ → List ℕ → List Bool → ℕ → ℕ → ℕ → List ℕ → List ℕ → Type 0
StampedUpTo h1 h2 m seen r k n before after =
    (j : ℕ) → j < count h2 → get_or after j 0 ≡ cond (any n (stamps_hop h1 h2 m seen r j)) k (get_or before j 0)

-- what the hops of graph 1 from place lo up to hi do: if the stamps before are those of all hops
-- before lo, the stamps after are those of all hops before hi
unfoldable pub StampedFrom : List ℕ → List ℕ → List ℕ → List Bool → ℕ → ℕ → ℕ → ℕ → List ℕ → List ℕ → Type 0
StampedFrom h1 h2 m seen r k lo hi before after =
    (first : List ℕ) → StampedUpTo h1 h2 m seen r k lo first before → StampedUpTo h1 h2 m seen r k hi first after
