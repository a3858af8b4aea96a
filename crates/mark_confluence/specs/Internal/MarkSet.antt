-- The set that marks are, and the marks of a set. Assumes nothing: these are definitions.
use Rattle.std.specs.Prelude.{ℕ, Bool, true, ◌&&◌, List, get_or, eqb}
use Rattle.base_bounded.specs.Quantifiers.{any}
use Rattle.graph.specs.Hops.{count, is}
use Rattle.base_fixpoint.specs.Pairs.{Pairs}

-- the hop at place i is marked: "Marks are 1 or 0"
unfoldable pub is_marked : List ℕ → ℕ → Bool
is_marked ms i = eqb (get_or ms i 0) 1

-- the set that marks are: some place has the silent hop s to t, and is marked
unfoldable pub mark_set_at : List ℕ → List ℕ → ℕ → ℕ → ℕ → Bool
mark_set_at hs ms s t i = is hs s 0 t i && is_marked ms i

unfoldable pub mark_set : List ℕ → List ℕ → Pairs
mark_set hs ms s t = any (count hs) (mark_set_at hs ms s t)

-- every pair: the marks of this set, which marking begins with, are 1 for each silent hop and 0 for
-- each visible one
abbrev pub every_pair : Pairs
every_pair s t = true
