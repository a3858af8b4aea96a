-- The short hops are strictly ascending and are exactly the images of the hops that leave a
-- representative. Assumes nothing.
use Prim.Native.Nat.{ℕ, ◌≤◌}
use mathlib.Core.Path.{◌≡◌, ap, ◌∙◌, subst}
use mathlib.Core.Bool.{true}
use mathlib.Core.List.{List}
use mathlib.Core.Logic.{◌↔◌}
use lib.ListN.{length}
use Rattle.base_bounded.specs.Quantifiers.{tally}
use Rattle.graph.specs.Hops.{count, from, to, flat, has}
use Rattle.graph.specs.Order.{Ascending}
use Rattle.graph.specs.declared.Shape.{Shape}
use Rattle.graph.proofs.Places.{has_at, has_place}
use Rattle.base_fixpoint.specs.Pairs.{Pairs}
use Rattle.reduce_insertion.proofs.Insertion.{sorted_ascending}
use Rattle.reduce_insertion.proofs.Collected.{collected_sorted, collected_few, collected_within, collected_iff}
use Rattle.reduce_representatives.specs.Representative.{is_normal, new_of, map_of}
use Rattle.reduce_short_graph.specs.Short.{ShortHop, image, short_up_to, short_hops}

module _ (sh : Shape) (hs : List ℕ) (u : Pairs) where
  -- "once, in ascending order"
  pub short_ascending : Ascending (flat (short_hops sh hs u))
  unfolding short_hops short_up_to
  short_ascending = sorted_ascending _ (collected_sorted (λ (i : ℕ). is_normal hs u (from hs i)) (image sh hs u) (count hs))

  -- at most as many as leave a representative
  pub short_few : length (short_hops sh hs u) ≤ tally (count hs) (λ (i : ℕ). is_normal hs u (from hs i))
  unfolding short_hops short_up_to
  short_few = collected_few (λ (i : ℕ). is_normal hs u (from hs i)) (image sh hs u) (count hs)

  pub short_within : length (short_hops sh hs u) ≤ count hs
  unfolding short_hops short_up_to
  short_within = collected_within (λ (i : ℕ). is_normal hs u (from hs i)) (image sh hs u) (count hs)

  pub short_has : (n a m : ℕ) → ShortHop sh hs u n a m → has (flat (short_hops sh hs u)) n a m ≡ true
  unfolding short_hops short_up_to
  short_has n a m (r, t, e, h, f, g) =
      let p = has_place hs r a t h in
      (collected_iff (λ (i : ℕ). is_normal hs u (from hs i)) (image sh hs u) (count hs) n a m).1 (
        p.at,
        p.within,
        rw p.from_is e,
        record { same_from = ap (new_of hs u) p.from_is ∙ f; same_label = p.label_is; same_to = ap (map_of sh hs u) p.to_is ∙ g },
      )

  pub short_only : (n a m : ℕ) → has (flat (short_hops sh hs u)) n a m ≡ true → ShortHop sh hs u n a m
  unfolding short_hops short_up_to
  short_only n a m e =
      let (i, l, f, q) = (collected_iff (λ (i : ℕ). is_normal hs u (from hs i)) (image sh hs u) (count hs) n a m).0 e in (
        from hs i,
        to hs i,
        f,
        subst (λ (x : ℕ). has hs (from hs i) x (to hs i) ≡ true) q.same_label (has_at hs l),
        q.same_from,
        q.same_to,
      )

  -- the short graph has exactly the images of the representatives' hops
  pub short_iff : (n a m : ℕ) → (has (flat (short_hops sh hs u)) n a m ≡ true) ↔ ShortHop sh hs u n a m
  short_iff n a m = (short_only n a m, short_has n a m)
