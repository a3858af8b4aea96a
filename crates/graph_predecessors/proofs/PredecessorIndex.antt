-- The table of places by where their hops end: that a sort by the targets makes it, and what stands
-- in it among the hops into a state. Assumes nothing.
use Prim.Native.Nat.{ℕ, ◌+◌, ◌<◌, ◌≤◌}
use mathlib.Core.Path.{◌≡◌, subst}
use mathlib.Core.List.{List}
use native.Mathlib.Omega.{arith}
use lib.ListN.{get_or}
use Rattle.std.specs.Prelude.{None}
use Rattle.base_bounded.specs.Internal.Slots.{slot}
use Rattle.base_bounded.proofs.Slots.{slot_of}
use Rattle.graph.specs.Hops.{count, to, numbers_a_hop}
use Rattle.graph_successors.specs.Internal.SuccessorIndex.{Indexable}
use Rattle.graph_counting_sort.specs.Internal.CountingSort.{KeyColumn, SlotsFilledBy}
use Rattle.graph_predecessors.specs.Internal.PredecessorIndex.{predecessor_start, PredecessorPlaces}

module _ (hs : List ℕ) {n : ℕ} where
  -- the targets are a column of the hop list
  pub targets_column : Indexable hs → n ≡ count hs → KeyColumn hs numbers_a_hop 2 n
  targets_column r e =
      record { most = omega (arith, r.hops_most); within = λ j l. omega arith; below = λ j l. r.to_in j (omega arith) }

  -- the places sorted by them
  pub places_filled : n ≡ count hs → (ps : List ℕ) → SlotsFilledBy (to hs) n None ps → PredecessorPlaces hs (count hs) ps
  unfolding SlotsFilledBy PredecessorPlaces
  places_filled e ps f j l = subst (λ (m : ℕ). get_or ps (slot (to hs) m j) 0 ≡ j) e (f j (omega arith))

-- what stands among the hops into a state
pub place_in : (hs ps : List ℕ) → PredecessorPlaces hs (count hs) ps → (s : ℕ) {k : ℕ} → predecessor_start hs s ≤ k → k < predecessor_start hs (s + 1) →
    (get_or ps k 0 < count hs) × (to hs (get_or ps k 0) ≡ s)
unfolding PredecessorPlaces
place_in hs ps f s {k} l m = go (slot_of (to hs) (count hs) s l m) where
  go : ((j : ℕ) × (j < count hs) × (to hs j ≡ s) × (slot (to hs) (count hs) j ≡ k)) → (get_or ps k 0 < count hs) × (to hs (get_or ps k 0) ≡ s)
  go (j, h, e, q) = let d : get_or ps k 0 ≡ j = rw q at (f j h) in (omega arith, rw d e)
