-- What only private functions and proofs cite beside `Reach`. Assumes nothing: these are
-- definitions.
use Rattle.std.specs.Prelude.{ℕ, ◌<◌, ◌≡◌, Bool, true, false, List, get_or}
use Rattle.graph.specs.Hops.{count, from, to}

-- a hop of the set c leads from s to t: the one at some place
pub record ChosenOf (hs : List ℕ) (c : ℕ → Bool) (s t : ℕ) : Type 0 where
  pub at : ℕ
  pub within : at < count hs
  pub from_is : from hs at ≡ s
  pub chosen : c at ≡ true
  pub to_is : to hs at ≡ t

-- the set whose hops have the flag
unfoldable pub chosen_in : List Bool → ℕ → Bool
chosen_in flags i = get_or flags i false

-- the flags are those of the set c
unfoldable pub Chooses : List ℕ → (ℕ → Bool) → List Bool → Type 0
Chooses hs c flags = (i : ℕ) → i < count hs → chosen_in flags i ≡ c i
