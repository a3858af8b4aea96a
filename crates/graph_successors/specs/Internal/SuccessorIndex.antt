-- The successor index: the table of first places, by which a state's hops are found. Assumes
-- nothing: these are definitions.
use Rattle.std.specs.Prelude.{ℕ, ◌<◌, ◌≤◌, ◌≡◌, List, get_or}
use Rattle.graph.specs.Hops.{count, from, to}
use Rattle.graph.specs.Order.{Ascending}
use Rattle.graph.specs.Search.{first_of}
use Rattle.graph.specs.Answers.{most_states, most_hops}

-- the table of first places, one for each state that can be and one past the last
unfoldable pub SuccessorIndex : List ℕ → List ℕ → Type 0
SuccessorIndex hs st = (s : ℕ) → s ≤ most_states → get_or st s 0 ≡ first_of hs s

-- what the table, and a walk by it from one end of a hop to the other, need of a hop list; `check`
-- sees to it
pub record Indexable (hs : List ℕ) : Type 0 where
  pub ascending : Ascending hs
  pub hops_most : count hs ≤ most_hops
  pub from_in : (i : ℕ) → i < count hs → from hs i < most_states
  pub to_in : (i : ℕ) → i < count hs → to hs i < most_states
