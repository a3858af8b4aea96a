-- Of every graph that rows 1 to 5 let pass, in any sense: the short graph is admitted and can be
-- reduced again, it has fewer states if a hop was marked, and the map to it keeps branching
-- bisimilarity. Assumes nothing.
use Prim.Native.Nat.{ℕ, ◌<◌}
use mathlib.Core.List.{List}
use Rattle.graph.specs.Hops.{flat}
use Rattle.graph_check.specs.Check.{Admitted}
use Rattle.graph.specs.declared.Shape.{Shape}
use Rattle.lts.specs.Closes.{Sense}
use Rattle.lts.specs.Internal.Reduction.{Reduces}
use Rattle.walk_silent.specs.Silent.{HopOf}
use Rattle.base_fixpoint.specs.Pairs.{In}
use Rattle.mark_senses.specs.Senses.{marked_in}
use Rattle.reduce_representatives.specs.Representative.{map_of}
use Rattle.reduce_representatives.specs.Reducible.{Reducible}
use Rattle.reduce_short_graph.specs.Short.{short_hops, short_shape}
use Rattle.reduce_short_graph.proofs.Reduces as short
use Rattle.reduce_short_graph.proofs.Again as again
use Rattle.reduce_entry.proofs.Marked.{marked_terminating, marked_weakly}

module _ {sh : Shape} {hs : List ℕ} (red : Reducible sh hs) (sense : Sense) where
  -- the map leads to states of the short graph
  pub map_inside : (s : ℕ) → s < sh.states → map_of sh hs (marked_in sense sh hs) s < (short_shape sh hs (marked_in sense sh hs)).states
  map_inside = short.map_inside red.admitted (marked_terminating red sense)

  pub short_admitted : Admitted (short_shape sh hs (marked_in sense sh hs)) (flat (short_hops sh hs (marked_in sense sh hs)))
  short_admitted = short.shape_admitted red.admitted (marked_terminating red sense)

  -- it loses no hop and leaves none unmatched
  pub short_reduces : {D : ℕ → Type 0} → Reduces D (HopOf hs) (HopOf (flat (short_hops sh hs (marked_in sense sh hs)))) (map_of sh hs (marked_in sense sh hs))
  short_reduces = short.map_reduces (marked_terminating red sense) (marked_weakly red sense)

  -- rows 1 to 5 let the short graph pass: it has no ring
  pub short_again : Reducible (short_shape sh hs (marked_in sense sh hs)) (flat (short_hops sh hs (marked_in sense sh hs)))
  short_again = again.short_again red.admitted (marked_terminating red sense) (marked_weakly red sense)

  -- a reduction that marked something leaves fewer states
  pub short_fewer : (s t : ℕ) → In (marked_in sense sh hs) s t → (short_shape sh hs (marked_in sense sh hs)).states < sh.states
  short_fewer = again.short_fewer red.admitted (marked_terminating red sense)
