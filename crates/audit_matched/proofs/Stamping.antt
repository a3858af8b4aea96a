-- Stamping: a stamp stands at a place of graph 2 exactly where some hop of graph 1 stamps it.
-- Assumes nothing.
use Rattle.std.proofs.lemmas.Bool.{and_parts, cases_eq, false_from_ne_true}
use Rattle.std.proofs.Common.{Result, Ok, Err}
use Prim.Native.Nat.{ℕ, ◌+◌, ◌<◌, ◌≤◌}
use mathlib.Core.Path.{◌≡◌, refl, ap, ◌∙◌}
use mathlib.Core.Bool.{Bool, true, false, cond, ◌||◌}
use mathlib.Core.List.{List}
use mathlib.Core.Logic.{⊎_elim}
use native.Mathlib.Numerals.{add-one}
use native.Mathlib.Omega.{arith}
use borrow.Author.Tests.{eqb-true}
use lib.ListN.{length, get_or, set}
use lib.Seq.{get_or-set_same, get_or-set_other}
use Rattle.base_bounded.specs.Quantifiers.{any}
use Rattle.graph.specs.Hops.{count, from, label, to, is, has}
use Rattle.graph.specs.Internal.Search.{placed}
use Rattle.graph.specs.declared.Hop.{Hop}
use Rattle.base_bounded.proofs.Quantifiers.{any_never}
use Rattle.graph.proofs.Places.{is_alike}
use Rattle.graph.proofs.Ordered.{alike_back, alike_then, ascending_place}
use Rattle.graph.proofs.Lookup.{at_place, gap_has}
use Rattle.graph_successors.specs.Internal.SuccessorIndex.{Indexable}
use Rattle.walk_reach.specs.Internal.Frontier.{visited}
use Rattle.graph.specs.Map.{mapped}
use Rattle.audit_faults.specs.Internal.Images.{mapped_hop, no_place, place_of, image_of}
use Rattle.audit_matched.specs.Internal.Stamps.{seen_in_class, stamps_hop, StampedUpTo}

-- a stamp for a hop is seen at its place and nowhere else
module _ (h2 : List ℕ) (ready : Indexable h2) (h : Hop) (k : ℕ) (stamps : List ℕ) (capacity : count h2 ≤ length stamps) (j : ℕ) (l : j < count h2) where
  abbrev is_h : ℕ → Bool
  is_h = is h2 h.from h.label h.to

  stamp_found : (f : Result ℕ ℕ) → placed h2 h ≡ f → get_or (set stamps (place_of f) k) j 0 ≡ cond (is_h j) k (get_or stamps j 0)
  unfolding has
  stamp_found (Ok p) e = let (w, d) = at_place h2 h e in ⊎_elim (here w d) (other w d) (cases_eq j p) where
    here : p < count h2 → is_h p ≡ true → j ≡ p → get_or (set stamps p k) j 0 ≡ cond (is_h j) k (get_or stamps j 0)
    here w d q = rw (q, d) (get_or-set_same stamps p k 0 (omega arith))

    other : p < count h2 → is_h p ≡ true → (j ≡ p → ⊥) → get_or (set stamps p k) j 0 ≡ cond (is_h j) k (get_or stamps j 0)
    other w d q =
        rw (false_from_ne_true (is_h j) (λ f. q (ascending_place h2 ready.ascending l w (alike_then (is_alike h2 h j f) (alike_back (is_alike h2 h p d))))))
        (get_or-set_other stamps p j k 0 q)
  stamp_found (Err p) e =
      rw (any_never is_h (count h2) (gap_has h2 h ready.ascending e) l) (get_or-set_other stamps no_place j k 0 (λ q. omega (arith, ready.hops_most)))

  pub stamp_at : get_or (set stamps (place_of (placed h2 h)) k) j 0 ≡ cond (is_h j) k (get_or stamps j 0)
  stamp_at = stamp_found (placed h2 h) refl

module _ (h1 h2 m : List ℕ) (seen : List Bool) (r k : ℕ) where
  -- before the first hop nothing is stamped
  pub stamped_none : (stamps : List ℕ) → StampedUpTo h1 h2 m seen r k 0 stamps stamps
  unfolding StampedUpTo any
  stamped_none stamps j l = refl

  seen_map : (i : ℕ) → seen_in_class h1 m seen r i ≡ true → mapped m (from h1 i) ≡ r
  unfolding seen_in_class
  seen_map i e = eqb-true _ _ (and_parts (visited seen (from h1 i)) _ e).1

  -- what the stamp of a hop that leaves r is seen as
  image_stamp : Indexable h2 → (stamps : List ℕ) → count h2 ≤ length stamps → (i : ℕ) → mapped m (from h1 i) ≡ r → (j : ℕ) → j < count h2 →
      get_or (set stamps (image_of h1 h2 m i) k) j 0 ≡ cond (is h2 r (label h1 i) (mapped m (to h1 i)) j) k (get_or stamps j 0)
  unfolding image_of
  image_stamp ready stamps capacity i q j l =
      stamp_at h2 ready (mapped_hop h1 m i) k stamps capacity j l ∙
      ap (λ (x : ℕ). cond (is h2 x (label h1 i) (mapped m (to h1 i)) j) k (get_or stamps j 0)) q

  -- .. and one place more, whose hop leaves a state that counts
  pub stamped_more : Indexable h2 → (stamps : List ℕ) → count h2 ≤ length stamps → (i : ℕ) → seen_in_class h1 m seen r i ≡ true →
      (first : List ℕ) → StampedUpTo h1 h2 m seen r k i first stamps → StampedUpTo h1 h2 m seen r k (i + 1) first (set stamps (image_of h1 h2 m i) k)
  unfolding StampedUpTo stamps_hop any
  stamped_more ready stamps capacity i e first t j l =
      image_stamp ready stamps capacity i (seen_map i e) j l ∙
      rw (add-one i, t j l, e) (go (is h2 r (label h1 i) (mapped m (to h1 i)) j) (any i (stamps_hop h1 h2 m seen r j))) where
        go : (x y : Bool) → cond x k (cond y k (get_or first j 0)) ≡ cond (x || y) k (get_or first j 0)
        go true y = refl
        go false y = refl
