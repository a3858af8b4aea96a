-- Marks of a set in a list: any list of marks without a mark at a visible hop is that of the set of
-- its marked hops; and that set is terminating where the graph has no ring. Assumes nothing.
use Prim.Native.Nat.{ℕ, ◌<◌, ◌≤◌}
use mathlib.Core.Path.{◌≡◌, refl}
use mathlib.Core.Bool.{◌&&◌}
use mathlib.Core.List.{List}
use mathlib.Core.Logic.{◌⊎◌, inl, inr}
use borrow.Author.Tests.{eq-eqb, ne_eqb}
use lib.Dec.{eqb}
use Rattle.std.proofs.lemmas.Bool.{cases_eq, false_from_ne_true}
use Rattle.graph.specs.Hops.{count, from, label, to, is, has}
use Rattle.graph.specs.Order.{Ascending}
use Rattle.graph.specs.declared.Shape.{Shape}
use Rattle.base_bounded.proofs.Quantifiers.{any_found, tally_within}
use Rattle.graph.proofs.Places.{is_yes}
use Rattle.walk_silent.specs.Silent.{HopOf, leads}
use Rattle.walk_silent.proofs.Rings.{rank, rank_falls_accepted}
use Rattle.base_fixpoint.specs.Pairs.{Pairs, In}
use Rattle.mark_confluence.specs.Internal.MarkSet.{is_marked, mark_set}
use Rattle.mark_confluence.proofs.MarkSet.{mark_set_says, mark_set_at_lem}
use Rattle.reduce_representatives.specs.Internal.Representative.{Terminating}
use Rattle.reduce_representatives.specs.Reducible.{Reducible}
use Rattle.reduce_representatives.specs.Internal.Tables.{Marks, SilentMarks}

-- the set that marks are has its own marks
pub mark_set_marks : {hs ms : List ℕ} → Ascending hs → SilentMarks hs ms → Marks hs (mark_set hs ms) ms
mark_set_marks {hs} {ms} up m = record { capacity = m.capacity; marks = mark } where
  mark : (i : ℕ) → i < count hs → is_marked ms i ≡ (eqb (label hs i) 0 && mark_set hs ms (from hs i) (to hs i))
  mark i l = go (cases_eq (label hs i) 0) where
    go : (label hs i ≡ 0) ⊎ (label hs i ≡ 0 → ⊥) → is_marked ms i ≡ (eqb (label hs i) 0 && mark_set hs ms (from hs i) (to hs i))
    go (inl z) = rw (eq-eqb (label hs i) 0 z) (mark_set_at_lem hs ms up (from hs i) (to hs i) l (is_yes hs (from hs i) 0 (to hs i) i refl z refl))
    go (inr n) = rw (ne_eqb (label hs i) 0 n) (false_from_ne_true (is_marked ms i) (λ o. n (m.silent i l o)))

-- in a graph without rings every set of silent hops is terminating
module _ {sh : Shape} {hs : List ℕ} (red : Reducible sh hs) where
  pub falls : (s t : ℕ) → HopOf hs s 0 t → rank sh hs t < rank sh hs s
  falls = rank_falls_accepted red.admitted.range red.free

  pub bound : (s : ℕ) → rank sh hs s ≤ sh.states
  unfolding rank
  bound s = tally_within (leads hs sh.states s) sh.states

  pub silent_terminating : (u : Pairs) → ((s t : ℕ) → In u s t → HopOf hs s 0 t) → Terminating sh hs u
  silent_terminating u silent = record { silent = silent; rank = rank sh hs; falls = λ s t m. falls s t (silent s t m); bound = bound }

  pub mark_set_terminating : (ms : List ℕ) → Terminating sh hs (mark_set hs ms)
  unfolding has
  mark_set_terminating ms =
      silent_terminating (mark_set hs ms) (λ s t e. let (i, l, h, o) = mark_set_says hs ms s t e in any_found (is hs s 0 t) (count hs) l h)
