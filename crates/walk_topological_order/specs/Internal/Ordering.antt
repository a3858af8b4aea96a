-- The topological order while it is made: a placed state has its flag true, all its silent hops
-- lead to placed states and stand in the order so far. No contract of an entry cites this. Assumes
-- nothing: these are definitions.
use Rattle.std.specs.Prelude.{ℕ, ◌+◌, ◌<◌, ◌≤◌, ◌≡◌, Bool, true, ◌&&◌, List, length, get_or, eqb}
use Rattle.base_bounded.specs.Quantifiers.{tally}
use Rattle.graph.specs.Hops.{count, from, label, to, labelled}
use Rattle.walk_reach.specs.Internal.Frontier.{visited}
use Rattle.walk_acyclic.specs.Internal.Ranks.{ends_visited}
use Rattle.walk_topological_order.specs.declared.Progress.{Progress}

-- the silent hops of v, and no others, are appended to the first n of the order, which then has r
pub record RowAppended (hs : List ℕ) (v : ℕ) (sorted : List ℕ) (n : ℕ) (sorted' : List ℕ) (r : ℕ) : Type 0 where
  pub long : length sorted' ≡ length sorted
  pub later : n ≤ r
  pub few : r ≤ n + tally (count hs) (labelled hs v 0)
  pub kept : (k : ℕ) → k < n → get_or sorted' k 0 ≡ get_or sorted k 0
  pub own : (k : ℕ) → n ≤ k → k < r → (get_or sorted' k 0 < count hs) × (labelled hs v 0 (get_or sorted' k 0) ≡ true)
  pub every : (i : ℕ) → i < count hs → labelled hs v 0 i ≡ true → (k : ℕ) × (n ≤ k) × (k < r) × (get_or sorted' k 0 ≡ i)

-- the hop at place i is a silent one of a placed state
unfoldable pub is_ordered : List ℕ → List Bool → ℕ → Bool
is_ordered hs placed i = eqb (label hs i) 0 && visited placed (from hs i)

-- the order so far: it has the silent hops of the placed ones of n states, which lead to placed
-- states, in reverse topological order
pub record OrderedSoFar (hs : List ℕ) (n : ℕ) (sorted : List ℕ) (p : Progress) : Type 0 where
  pub flags : n ≤ length p.placed
  pub capacity : count hs ≤ length sorted
  pub counted : p.states ≡ tally n (visited p.placed)
  pub few : p.places ≤ tally (count hs) (is_ordered hs p.placed)
  pub ends : (i : ℕ) → i < count hs → is_ordered hs p.placed i ≡ true → visited p.placed (to hs i) ≡ true
  pub own : (k : ℕ) → k < p.places → (get_or sorted k 0 < count hs) × (is_ordered hs p.placed (get_or sorted k 0) ≡ true)
  pub every : (i : ℕ) → i < count hs → is_ordered hs p.placed i ≡ true → (k : ℕ) × (k < p.places) × (get_or sorted k 0 ≡ i)
  pub order : (j k : ℕ) → j < p.places → k < p.places → to hs (get_or sorted j 0) ≡ from hs (get_or sorted k 0) → k < j

-- v is placed, or cannot be
abbrev pub Stuck : List ℕ → List Bool → ℕ → Type 0
Stuck hs placed v = ends_visited hs placed v ≡ true → visited placed v ≡ true

-- after the states of W were tried: more states are placed, or the same ones and none of W that is
-- not placed can be
pub data PlacedOrStuck (hs : List ℕ) (W : ℕ → Type 0) (p p' : Progress) : Type 0 where
  more : p.states < p'.states → PlacedOrStuck hs W p p'
  none : p'.placed ≡ p.placed → p'.states ≡ p.states → ((u : ℕ) → W u → Stuck hs p.placed u) → PlacedOrStuck hs W p p'

-- v alone
abbrev pub OnlyState : ℕ → ℕ → Type 0
OnlyState v u = u ≡ v

-- after a pass: the order so far is in order still, and if not all states were placed, more are now
pub record PassGains (hs : List ℕ) (n : ℕ) (p : Progress) (sorted' : List ℕ) (p' : Progress) : Type 0 where
  pub ordered : OrderedSoFar hs n sorted' p'
  pub more : p.states < n → p.states < p'.states
