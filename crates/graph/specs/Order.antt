-- The order of hops: "by from, then label, then to". Assumes nothing: these are definitions.
use Rattle.std.specs.Prelude.{ℕ, ◌+◌, ◌<◌, ◌≡◌, Bool, true, ◌&&◌, ◌||◌, List, eqb, ltb}
use Rattle.graph.specs.Hops.{count, hop_at}
use Rattle.graph.specs.declared.Hop.{Hop}

-- hop a comes before hop b
unfoldable pub before : Hop → Hop → Bool
before a b =
    ltb a.from b.from ||
    (eqb a.from b.from && (ltb a.label b.label || (eqb a.label b.label && ltb a.to b.to)))

-- "strictly ascending": each hop is above the one before
unfoldable pub Ascending : List ℕ → Type 0
Ascending hs = (i : ℕ) → i + 1 < count hs → before (hop_at hs i) (hop_at hs (i + 1)) ≡ true
