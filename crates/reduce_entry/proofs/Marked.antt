-- For every graph that rows 1 to 5 let pass: the marked set of any sense is terminating and weakly
-- confluent, so that what `reduce_representatives` and `reduce_short_graph` prove of any such set
-- holds of it. Assumes nothing.
use Prim.Native.Nat.{ℕ, ◌≤◌}
use mathlib.Core.List.{List}
use lib.ListN.{length}
use Rattle.graph.specs.Hops.{count}
use Rattle.graph.specs.declared.Shape.{Shape}
use Rattle.lts.specs.Internal.Reduction.{Confluent}
use Rattle.lts.specs.Closes.{Sense}
use Rattle.lts.proofs.SenseForms.{confluent_in_weak}
use Rattle.walk_silent.specs.Silent.{HopOf}
use Rattle.walk_silent.proofs.Rings.{rank}
use Rattle.base_fixpoint.specs.Pairs.{In}
use Rattle.mark_senses.specs.Senses.{marked_in, marked_by}
use Rattle.mark_senses.proofs.Marked.{in_silent, marked_confluent_in}
use Rattle.reduce_representatives.specs.Internal.Representative.{Terminating}
use Rattle.reduce_representatives.specs.Reducible.{Reducible}
use Rattle.reduce_representatives.proofs.Marked.{falls, silent_terminating}
use Rattle.reduce_short_graph.proofs.Images.{short_within}
use Rattle.reduce_entry.specs.Reduce.{reduced_hops}

module _ {sh : Shape} {hs : List ℕ} (red : Reducible sh hs) (sense : Sense) where
  -- walks along marked hops terminate
  pub marked_terminating : Terminating sh hs (marked_in sense sh hs)
  marked_terminating = silent_terminating red (marked_in sense sh hs) (in_silent sense sh hs)

  -- confluence in any sense is weak confluence
  pub marked_weakly : Confluent (HopOf hs) (In (marked_in sense sh hs))
  marked_weakly = confluent_in_weak (HopOf hs) (In (marked_in sense sh hs)) (marked_confluent_in sense sh hs) (rank sh hs) (falls red)

-- the short hops are no more than the hops
pub marked_within : (sh : Shape) (hs : List ℕ) (k : ℕ) → length (reduced_hops sh hs k) ≤ count hs
marked_within sh hs k = short_within sh hs (marked_by k sh hs)
