-- The parts of the breadth-first search for the states that a state leads to along chosen hops: a
-- flag for each state, true where the state has been visited, and a queue of the states visited so
-- far. Assumes nothing: these are definitions.
use Rattle.std.specs.Prelude.{ℕ, ◌+◌, ◌<◌, ◌≤◌, ◌≡◌, Bool, true, false, cond, List, ◌⊎◌, length, get_or, set, drop, map}
use Rattle.std.specs.List.{range_with_len}
use Rattle.base_bounded.specs.Quantifiers.{tally}
use Rattle.walk_reach.specs.Internal.Reach.{ChosenOf}
use Rattle.walk_reach.specs.Reach.{leads_by}
use Rattle.walk_reach.specs.declared.Reached.{Reached}

-- state t is visited
unfoldable pub visited : List Bool → ℕ → Bool
visited seen t = get_or seen t false

-- the flags of the states that s leads to along hops of the set c, for n states
unfoldable pub reached_flags : List ℕ → (ℕ → Bool) → ℕ → ℕ → List Bool
reached_flags hs c n s = map (leads_by hs c n s) (range_with_len 0 n)

-- the visit of t: its flag is true, and if it was not visited before it stands at the end of the
-- queue
abbrev pub seen_with : List Bool → ℕ → List Bool
seen_with seen t = cond (visited seen t) seen (set seen t true)

abbrev pub queue_with : List Bool → List ℕ → ℕ → ℕ → List ℕ
queue_with seen queue tail t = cond (visited seen t) queue (set queue tail t)

abbrev pub tail_with : List Bool → ℕ → ℕ → ℕ
tail_with seen tail t = cond (visited seen t) tail (tail + 1)

-- working space for a search over n states
pub record Space (n : ℕ) (seen : List Bool) (queue : List ℕ) : Type 0 where
  pub seen_capacity : n ≤ length seen
  pub queue_capacity : n ≤ length queue

-- the flags and the queue are the same ones
pub record SameSpace (old new : Reached) : Type 0 where
  pub seen : new.seen.ghost_name ≡ old.seen.ghost_name
  pub queue : new.queue.ghost_name ≡ old.queue.ghost_name

-- the visited ones of n states are the first `tail` of the queue
pub record Frontier (n : ℕ) (seen : List Bool) (queue : List ℕ) (tail : ℕ) : Type 0 where
  pub seen_capacity : n ≤ length seen
  pub queue_capacity : n ≤ length queue
  pub counted : tail ≤ tally n (visited seen)
  pub in_queue : (t : ℕ) → t < n → visited seen t ≡ true → (q : ℕ) × (q < tail) × (get_or queue q 0 ≡ t)
  pub from_queue : (q : ℕ) → q < tail → (get_or queue q 0 < n) × (visited seen (get_or queue q 0) ≡ true)

-- from one frontier to a later one, by visits of ends of hops of v of the set c
pub record Grown (hs : List ℕ) (c : ℕ → Bool) (n v : ℕ) (seen : List Bool) (queue : List ℕ) (tail : ℕ) (seen' : List Bool) (queue' : List ℕ) (tail' : ℕ) : Type 0 where
  pub front : Frontier n seen' queue' tail'
  pub kept : (u : ℕ) → visited seen u ≡ true → visited seen' u ≡ true
  pub new : (u : ℕ) → visited seen' u ≡ true → (visited seen u ≡ true) ⊎ ChosenOf hs c v u
  pub same_queue : (q : ℕ) → q < tail → get_or queue' q 0 ≡ get_or queue q 0
  pub tail_later : tail ≤ tail'
  pub rest : drop n seen' ≡ drop n seen
  pub seen_length : length seen' ≡ length seen
  pub queue_length : length queue' ≡ length queue

-- and all of them are visited
pub record Expanded (hs : List ℕ) (c : ℕ → Bool) (n v : ℕ) (seen : List Bool) (queue : List ℕ) (tail : ℕ) (seen' : List Bool) (queue' : List ℕ) (tail' : ℕ) : Type 0 where
  pub grown : Grown hs c n v seen queue tail seen' queue' tail'
  pub every : (u : ℕ) → ChosenOf hs c v u → visited seen' u ≡ true
