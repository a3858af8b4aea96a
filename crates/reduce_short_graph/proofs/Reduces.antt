-- The short graph is admitted, and the map to it keeps branching bisimilarity: it loses no hop and
-- leaves none unmatched. Assumes nothing.
use Prim.Native.Nat.{ℕ, ◌<◌}
use mathlib.Core.Path.{refl, ap, subst}
use mathlib.Core.List.{List}
use native.Mathlib.Omega.{arith}
use Rattle.base_bounded.specs.Quantifiers.{tally}
use Rattle.graph.specs.Hops.{count, from, label, to, flat}
use Rattle.graph_check.specs.Check.{Admitted}
use Rattle.graph.specs.declared.Shape.{Shape}
use Rattle.base_bounded.proofs.Quantifiers.{tally_within}
use Rattle.graph.proofs.Places.{has_at, has_place, length_flat, count_flat}
use Rattle.lts.specs.Internal.Reduction.{Confluent, Reduces}
use Rattle.lts.specs.Internal.Renumbered.{Renumbered}
use Rattle.lts.proofs.Renumbered.{renumbered_reduces}
use Rattle.walk_silent.specs.Silent.{HopOf}
use Rattle.base_fixpoint.specs.Pairs.{Pairs, In}
use Rattle.reduce_representatives.specs.Internal.Representative.{Terminating}
use Rattle.reduce_representatives.specs.Representative.{is_normal, new_of, rep_of, map_of}
use Rattle.reduce_representatives.proofs.NormalForm.{rep_is_normal, rep_rests}
use Rattle.reduce_representatives.proofs.Numbers.{new_over, new_injective}
use Rattle.reduce_representatives.proofs.Mapped.{rep_own, map_in}
use Rattle.reduce_short_graph.specs.Short.{ShortHop, short_hops, short_shape}
use Rattle.reduce_short_graph.proofs.Images.{short_ascending, short_within, short_has, short_only}

module _ {sh : Shape} {hs : List ℕ} {u : Pairs} (sett : Terminating sh hs u) where
  -- the short graph is what is left, numbered anew
  pub short_renumbered : Renumbered (HopOf hs) (rep_of sh hs u) (HopOf (flat (short_hops sh hs u))) (map_of sh hs u)
  unfolding map_of
  short_renumbered = record {
    same = λ s. ap (new_of hs u) (rep_own sh hs u _ (rep_is_normal sett s));
    other = λ s t. new_injective hs u _ _ (rep_is_normal sett s) (rep_is_normal sett t);
    fore = λ s a t h. short_has sh hs u _ a _ (rep_of sh hs u s, t, rep_is_normal sett s, h, refl, refl);
    back = λ s a q h.
        let (r, t, e, k, d, g) = short_only sh hs u _ a q h in
        (t, subst (λ (x : ℕ). HopOf hs x a t) (new_injective hs u r _ e (rep_is_normal sett s) d) k, g);
  }

  -- the map to the short graph keeps branching bisimilarity: it loses no hop and leaves none
  -- unmatched
  pub map_reduces : Confluent (HopOf hs) (In u) → {D : ℕ → Type 0} → Reduces D (HopOf hs) (HopOf (flat (short_hops sh hs u))) (map_of sh hs u)
  map_reduces conf = renumbered_reduces conf (rep_rests sett) short_renumbered

-- the short graph is admitted
module _ {sh : Shape} {hs : List ℕ} {u : Pairs} (adm : Admitted sh hs) (sett : Terminating sh hs u) where
  hop_in_lem : (n a m : ℕ) → ShortHop sh hs u n a m → (n < tally sh.states (is_normal hs u)) × (a < sh.labels) × (m < tally sh.states (is_normal hs u))
  hop_in_lem n a m (r, t, e, k, f, g) =
      let p = has_place hs r a t k in (
        rw (← f) (new_over hs u r sh.states e (rw p.from_is at (adm.range.from_in p.at p.within))),
        rw p.label_is at (adm.range.label_in p.at p.within),
        rw (← g) (map_in sett adm.range t (rw p.to_is at (adm.range.to_in p.at p.within))),
      )

  at_in : (i : ℕ) → i < count (flat (short_hops sh hs u)) →
      (from (flat (short_hops sh hs u)) i < tally sh.states (is_normal hs u)) × (label (flat (short_hops sh hs u)) i < sh.labels) ×
      (to (flat (short_hops sh hs u)) i < tally sh.states (is_normal hs u))
  at_in i l = hop_in_lem _ _ _ (short_only sh hs u _ _ _ (has_at (flat (short_hops sh hs u)) l))

  pub shape_admitted : Admitted (short_shape sh hs u) (flat (short_hops sh hs u))
  unfolding short_shape
  shape_admitted = record {
    states_some = omega (arith, map_in sett adm.range sh.initial adm.initial_in);
    states_most = omega (arith, tally_within (is_normal hs u) sh.states, adm.states_most);
    labels_some = adm.labels_some;
    labels_most = adm.labels_most;
    hops_most = omega (arith, count_flat (short_hops sh hs u), short_within sh hs u, adm.hops_most);
    whole_hops = omega (arith, length_flat (short_hops sh hs u));
    initial_in = map_in sett adm.range sh.initial adm.initial_in;
    range = record { from_in = λ i l. (at_in i l).0; label_in = λ i l. (at_in i l).1; to_in = λ i l. (at_in i l).2 };
    ascending = short_ascending sh hs u;
  }

  pub map_inside : (s : ℕ) → s < sh.states → map_of sh hs u s < (short_shape sh hs u).states
  unfolding short_shape
  map_inside = map_in sett adm.range
