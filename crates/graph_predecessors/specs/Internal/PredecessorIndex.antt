-- The predecessor index: the table of places by where their hops end, in which the hops into a
-- state stand together. Assumes nothing: these are definitions.
use Rattle.std.specs.Prelude.{ℕ, ◌<◌, ◌≤◌, ◌≡◌, List, get_or}
use Rattle.base_bounded.specs.Internal.Slots.{key_start, slot}
use Rattle.graph.specs.Hops.{count, to}
use Rattle.graph.specs.Answers.{most_states}

-- where the hops into s begin in the table: behind all that end in a lower state
abbrev pub predecessor_start : List ℕ → ℕ → ℕ
predecessor_start hs s = key_start (to hs) (count hs) s

-- the first table: where the hops into a state begin, for each state that can be, and one past the
-- last
unfoldable pub PredecessorStarts : List ℕ → List ℕ → Type 0
PredecessorStarts hs bs = (s : ℕ) → s ≤ most_states → get_or bs s 0 ≡ predecessor_start hs s

-- the second table, over the first n hops: each place stands in the slot that its hop has by the
-- state that it ends in
unfoldable pub PredecessorPlaces : List ℕ → ℕ → List ℕ → Type 0
PredecessorPlaces hs n ps = (j : ℕ) → j < n → get_or ps (slot (to hs) (count hs) j) 0 ≡ j
