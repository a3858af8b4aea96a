-- What need not be tried again in a later round of marking. Assumes nothing: these are definitions.
use Rattle.std.specs.Prelude.{ℕ, ◌<◌, ◌≡◌, Bool, true, false, List, get_or}
use Rattle.graph.specs.Hops.{count, from, to}
use Rattle.mark_confluence.specs.Internal.Rounds.{answered}
use Rattle.mark_confluence.specs.Internal.MarkSet.{mark_set}

-- the hops of the state that the hop at place i leaves, if they lead to a state that is not dirty,
-- are answered from its end; sh has true for each dirty state
unfoldable pub CleanAnswered : List ℕ → List ℕ → List Bool → ℕ → Type 0
CleanAnswered hs ms sh i = (j : ℕ) → j < count hs → from hs j ≡ from hs i → get_or sh (to hs j) false ≡ false → answered hs (mark_set hs ms) (to hs i) j ≡ true
