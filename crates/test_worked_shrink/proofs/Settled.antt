-- Marks that can be checked by hand: if each marked hop closes with the marked ones, and one round
-- of removing what does not close leaves no other hop, they are the marks of the marked set, which
-- the definition finds by as many rounds as there are hops. Assumes nothing.
use Prim.Native.Nat.{ℕ}
use mathlib.Core.Path.{◌≡◌}
use mathlib.Core.Bool.{Bool, true, cond, ◌&&◌}
use mathlib.Core.List.{List}
use borrow.Author.Tests.{eq-eqb, eqb-true}
use lib.Dec.{eqb}
use Rattle.std.proofs.lemmas.Bool.{and_from, and_parts}
use Rattle.base_bounded.specs.Quantifiers.{all}
use Rattle.base_bounded.proofs.Quantifiers.{all_at}
use Rattle.graph.specs.Hops.{count, from, label, to}
use Rattle.graph.specs.declared.Shape.{Shape}
use Rattle.graph.proofs.Places.{has_at, has_place, is_yes, is_from, is_label, is_to}
use Rattle.base_fixpoint.specs.Pairs.{In, Subset}
use Rattle.base_fixpoint.specs.Approximants.{approximant}
use Rattle.base_fixpoint.proofs.Approximants.{post_fixed_approximant}
use Rattle.lts.specs.Closes.{Sense}
use Rattle.mark_confluence.specs.Rounds.{silent_hops}
use Rattle.mark_confluence.specs.Internal.MarkSet.{is_marked, mark_set}
use Rattle.mark_confluence.proofs.MarkSet.{mark_set_says, mark_set_yes}
use Rattle.mark_senses.specs.Senses.{closes_in, marked_in}
use Rattle.mark_senses.proofs.Marked.{in_silent, in_kept, in_same}

module _ (sense : Sense) (sh : Shape) (hs ms : List ℕ) where
  -- the hop at place i: if it is marked, it is silent and closes with the marked ones
  unfoldable pub closes_at : ℕ → Bool
  closes_at i = cond (is_marked ms i) (eqb (label hs i) 0 && closes_in sense sh hs (mark_set hs ms) (from hs i) (to hs i)) true

  -- if it is silent and one round leaves it, it is marked
  unfoldable pub left_at : ℕ → Bool
  left_at i = cond (eqb (label hs i) 0 && approximant (closes_in sense sh hs) (silent_hops hs) 1 (from hs i) (to hs i)) (is_marked ms i) true

  module _ (c : all (count hs) closes_at ≡ true) (l : all (count hs) left_at ≡ true) where
    closed : (i : ℕ) → is_marked ms i ≡ true → closes_at i ≡ true → (label hs i ≡ 0) × (closes_in sense sh hs (mark_set hs ms) (from hs i) (to hs i) ≡ true)
    unfolding closes_at
    closed i m e = let p = rw m at e in (eqb-true _ _ (and_parts (eqb (label hs i) 0) _ p).0, (and_parts (eqb (label hs i) 0) _ p).1)

    held_silent : Subset (In (mark_set hs ms)) (In (silent_hops hs))
    held_silent s t e =
        let (i, k, p, m) = mark_set_says hs ms s t e in
        rw (is_from hs s 0 t i p, is_label hs s 0 t i p, is_to hs s 0 t i p) at (has_at hs k)

    held_closes : Subset (In (mark_set hs ms)) (In (closes_in sense sh hs (mark_set hs ms)))
    held_closes s t e =
        let (i, k, p, m) = mark_set_says hs ms s t e in
        rw (is_from hs s 0 t i p, is_to hs s 0 t i p) at (closed i m (all_at closes_at (count hs) c k)).1

    left : (i : ℕ) → label hs i ≡ 0 → approximant (closes_in sense sh hs) (silent_hops hs) 1 (from hs i) (to hs i) ≡ true → left_at i ≡ true → is_marked ms i ≡ true
    unfolding left_at
    left i z m e = rw (and_from _ _ (eq-eqb _ _ z) m) at e

    marked_held : Subset (In (marked_in sense sh hs)) (In (mark_set hs ms))
    marked_held s t e =
        let p = has_place hs s 0 t (in_silent sense sh hs s t e) in
        let r = post_fixed_approximant (closes_in sense sh hs) (silent_hops hs) (in_silent sense sh hs) (in_kept sense sh hs) 1 s t e in
        mark_set_yes hs ms s t p.within (is_yes hs s 0 t p.at p.from_is p.label_is p.to_is)
        (left p.at p.label_is (rw (p.from_is, p.to_is) r) (all_at left_at (count hs) l p.within))

    pub settled : mark_set hs ms ≡ marked_in sense sh hs
    settled = in_same sense sh hs (mark_set hs ms) held_silent held_closes marked_held
