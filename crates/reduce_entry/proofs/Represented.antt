-- Of every graph that rows 1 to 5 let pass, in any sense: the state that the walk along marked hops
-- comes to is the representative of its class. Assumes nothing.
use Prim.Native.Nat.{ℕ}
use mathlib.Core.Path.{◌≡◌}
use mathlib.Core.Bool.{true}
use mathlib.Core.List.{List}
use mathlib.Core.Logic.{◌↔◌}
use Rattle.graph.specs.declared.Shape.{Shape}
use Rattle.lts.specs.Sense.{Normal}
use Rattle.lts.specs.Closes.{Sense}
use Rattle.base_fixpoint.specs.Pairs.{In}
use Rattle.mark_senses.specs.Senses.{marked_in}
use Rattle.reduce_representatives.specs.Representative.{IsRepresentative, is_normal, new_of, rep_of, map_of}
use Rattle.reduce_representatives.specs.Reducible.{Reducible}
use Rattle.reduce_representatives.proofs.NormalForm.{is_normal_iff, rep_is_representative}
use Rattle.reduce_representatives.proofs.Mapped.{map_own}
use Rattle.reduce_entry.proofs.Marked.{marked_terminating, marked_weakly}

module _ {sh : Shape} {hs : List ℕ} (red : Reducible sh hs) (sense : Sense) where
  -- a state is normal exactly when no marked hop leaves it
  pub normal_iff : (s : ℕ) → (is_normal hs (marked_in sense sh hs) s ≡ true) ↔ Normal (In (marked_in sense sh hs)) s
  normal_iff = is_normal_iff (marked_terminating red sense)

  -- "each class has exactly one state that no marked hop leaves: its representative"
  pub representative_unique : (s : ℕ) → IsRepresentative (marked_in sense sh hs) s (rep_of sh hs (marked_in sense sh hs) s)
  representative_unique = rep_is_representative (marked_terminating red sense) (marked_weakly red sense)

  -- the new number of a representative is its map
  pub map_normal : (r : ℕ) → is_normal hs (marked_in sense sh hs) r ≡ true → map_of sh hs (marked_in sense sh hs) r ≡ new_of hs (marked_in sense sh hs) r
  map_normal = map_own sh hs (marked_in sense sh hs)
