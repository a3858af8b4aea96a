-- The short graph can be reduced again: rows 1 to 5 let it pass, rings included. It has fewer
-- states if a hop was in the set, and as many if none was. Assumes nothing.
use Prim.Native.Nat.{ℕ, ◌<◌}
use mathlib.Core.Path.{◌≡◌, refl, ◌∙◌}
use mathlib.Core.Bool.{true}
use mathlib.Core.List.{List}
use native.Mathlib.Omega.{arith}
use Rattle.std.proofs.lemmas.Bool.{false_from_ne_true}
use Rattle.base_bounded.proofs.Quantifiers.{tally_within, tally_less}
use Rattle.base_bounded.proofs.Tallies.{tally_full}
use Rattle.graph.specs.Hops.{flat}
use Rattle.graph.specs.declared.Shape.{Shape}
use Rattle.graph_check.specs.Check.{Admitted}
use Rattle.lts.specs.Internal.Reduction.{Confluent}
use Rattle.lts.proofs.Renumbered.{renumbered_acyclic}
use Rattle.walk_silent.specs.Silent.{HopOf, OnRing}
use Rattle.walk_silent.proofs.Rings.{ring_answer_iff}
use Rattle.walk_silent.proofs.Hops.{silent_start}
use Rattle.base_fixpoint.specs.Pairs.{Pairs, In}
use Rattle.reduce_representatives.specs.Internal.Representative.{Terminating}
use Rattle.reduce_representatives.specs.Representative.{is_normal, map_of}
use Rattle.reduce_representatives.specs.Reducible.{Reducible}
use Rattle.reduce_representatives.proofs.NormalForm.{is_normal_normal, normal_is_normal, rep_rests}
use Rattle.reduce_representatives.proofs.Mapped.{map_own}
use Rattle.reduce_short_graph.specs.Short.{short_hops, short_shape}
use Rattle.reduce_short_graph.proofs.Images.{short_only}
use Rattle.reduce_short_graph.proofs.Reduces.{short_renumbered, shape_admitted}

module _ {sh : Shape} {hs : List ℕ} {u : Pairs} (adm : Admitted sh hs) (sett : Terminating sh hs u) where
  -- "no short graph has a ring"
  pub short_acyclic : Confluent (HopOf hs) (In u) → (n : ℕ) → OnRing (flat (short_hops sh hs u)) n → ⊥
  short_acyclic conf n (m, h, p) =
      let (r, _, e, _, d, _) = short_only sh hs u n 0 m h in
      let at : map_of sh hs u r ≡ n = map_own sh hs u r e ∙ d in
      renumbered_acyclic conf (rep_rests sett) (short_renumbered sett) r m (rw at h) (rw at p)

  pub short_again : Confluent (HopOf hs) (In u) → Reducible (short_shape sh hs u) (flat (short_hops sh hs u))
  short_again conf = record { admitted = shape_admitted adm sett; free = (ring_answer_iff (shape_admitted adm sett).range).1 (short_acyclic conf) }

  pub short_fewer : (s t : ℕ) → In u s t → (short_shape sh hs u).states < sh.states
  unfolding short_shape
  short_fewer s t m =
      let l = silent_start adm.range s t (sett.silent s t m) in
      omega (
        arith,
        tally_within (λ (_ : ℕ). true) sh.states,
        tally_less (is_normal hs u) (λ (_ : ℕ). true) sh.states (λ _ _ _. refl) l (false_from_ne_true _ (λ e. is_normal_normal sett s e t m)) refl,
      )

pub short_all : (sh : Shape) (hs : List ℕ) (u : Pairs) → ((s t : ℕ) → In u s t → ⊥) → (short_shape sh hs u).states ≡ sh.states
unfolding short_shape
short_all sh hs u none = tally_full (is_normal hs u) sh.states (λ s l. normal_is_normal hs u s (none s))
