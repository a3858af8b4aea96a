-- The place of a hop (transition) in an ascending list, or the place where it would stand. Assumes
-- nothing: these are definitions.
use Rattle.std.specs.Prelude.{ℕ, ◌+◌, not, List}
use Rattle.base_bounded.specs.Quantifiers.{least}
use Rattle.graph.specs.Hops.{count, hop_of, hop_at}
use Rattle.graph.specs.Order.{before}
use Rattle.graph.specs.declared.Hop.{Hop}

-- the first place whose hop is not before h, or the number of hops
unfoldable pub lower : List ℕ → Hop → ℕ
lower hs h = least (count hs) (λ (i : ℕ). not (before (hop_at hs i) h))

-- the places of the hops of a state: the first place, and the one past the last
unfoldable pub first_of : List ℕ → ℕ → ℕ
first_of hs s = lower hs (hop_of s 0 0)

unfoldable pub past_of : List ℕ → ℕ → ℕ
past_of hs s = first_of hs (s + 1)
