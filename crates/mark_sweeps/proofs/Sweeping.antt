-- What one test of strong confluence does to the set that marks are: no hop of the marked set loses
-- its mark, since such a hop closes with any set that contains the marked set. Assumes nothing.
use Prim.Native.Nat.{ℕ, ◌<◌}
use mathlib.Core.Path.{◌≡◌, sym, ◌∙◌}
use mathlib.Core.Bool.{Bool, true, false}
use mathlib.Core.List.{List}
use mathlib.Core.Logic.{◌⊎◌, inl, inr}
use native.Mathlib.Omega.{arith}
use lib.ListN.{length, get_or, set, drop, length-set}
use lib.Seq.{get_or-set_same, get_or-set_other, drop-set-lt}
use borrow.Author.Tests.{eqb-true}
use Rattle.base_bounded.proofs.Bools.{clash, eq_or_not}
use Rattle.base_bounded.proofs.Quantifiers.{tally_less}
use Rattle.base_outputs.specs.Output.{on_front}
use Rattle.graph.specs.Hops.{count, from, to, is}
use Rattle.graph.specs.Order.{Ascending}
use Rattle.graph.proofs.Places.{is_from, is_to}
use Rattle.mark_confluence.specs.Rounds.{closes, marked}
use Rattle.mark_confluence.specs.Internal.Rounds.{closes_at}
use Rattle.mark_confluence.specs.Internal.MarkSet.{is_marked, mark_set}
use Rattle.mark_confluence.specs.Marks.{marks_of}
use Rattle.mark_confluence.proofs.Marked.{marked_kept, marked_same}
use Rattle.mark_confluence.proofs.MarkSet.{mark_set_says, mark_set_yes, taken_here, taken_there, taken_only}
use Rattle.mark_removal.specs.Internal.Removal.{mark_count, Marking, Swept}
use Rattle.mark_sweeps.specs.Internal.Sweep.{ClosesIfMarked, ClosesUpTo}
use Rattle.mark_removal.proofs.Fixpoint.{on_or_off, swept_none, fixpoint_marks}

module _ (hs : List ℕ) {ms : List ℕ} (m : Marking hs (marked hs) ms) where
  pub tested_off : (i : ℕ) → get_or ms i 0 ≡ 0 → Swept hs (marked hs) (ClosesIfMarked hs i) ms ms 0
  unfolding ClosesIfMarked is_marked
  tested_off i z = swept_none m (λ o. absurd (omega (arith, eqb-true (get_or ms i 0) 1 o)))

  pub tested_closes : (i : ℕ) {v : Bool} → v ≡ closes_at hs (mark_set hs ms) i → v ≡ true → Swept hs (marked hs) (ClosesIfMarked hs i) ms ms 0
  unfolding ClosesIfMarked
  tested_closes i e d = swept_none m (λ o. sym e ∙ d)

  module _ {i : ℕ} (l : i < count hs) where
    long : i < length ms
    long = omega (arith, m.capacity)

    pub tested_lost : (get_or ms i 0 ≡ 0 → ⊥) → {v : Bool} → v ≡ closes_at hs (mark_set hs ms) i → v ≡ false → Swept hs (marked hs) (ClosesIfMarked hs i) ms (set ms i 0) 1
    unfolding mark_count
    tested_lost n x d =
        record {
          marking = record { capacity = simp length-set m.capacity; bits = bits; silent = λ j k e. m.silent j k (taken_only ms long j e); holds = holds };
          beyond = drop-set-lt (count hs) ms i 0 l;
          fewer = omega (arith, tally_less (is_marked (set ms i 0)) (is_marked ms) (count hs) (λ j k e. taken_only ms long j e) l (taken_here ms long) (on_or_off m l n));
          same = λ q. absurd (omega arith);
        } where
          bits : (j : ℕ) → j < count hs → (get_or (set ms i 0) j 0 ≡ 0) ⊎ (get_or (set ms i 0) j 0 ≡ 1)
          bits j k = go (eq_or_not j i) where
            go : (j ≡ i) ⊎ (j ≡ i → ⊥) → (get_or (set ms i 0) j 0 ≡ 0) ⊎ (get_or (set ms i 0) j 0 ≡ 1)
            go (inl q) = inl (rw q (get_or-set_same ms i 0 0 (omega (arith, m.capacity))))
            go (inr n) = rw (get_or-set_other ms i j 0 0 n) (m.bits j k)

          holds : (s t : ℕ) → marked hs s t ≡ true → mark_set hs (set ms i 0) s t ≡ true
          holds s t e = let (j, k, h, o) = mark_set_says hs ms s t (m.holds s t e) in go j k h o (eq_or_not j i) where
            go : (j : ℕ) → j < count hs → is hs s 0 t j ≡ true → is_marked ms j ≡ true → (j ≡ i) ⊎ (j ≡ i → ⊥) → mark_set hs (set ms i 0) s t ≡ true
            go j k h o (inl q) =
                let f : from hs i ≡ s = rw q at (is_from hs s 0 t j h) in
                let g : to hs i ≡ t = rw q at (is_to hs s 0 t j h) in
                clash (rw (f, g) (marked_kept hs (mark_set hs ms) m.holds s t e)) (sym x ∙ d)
            go j k h o (inr n) = mark_set_yes hs (set ms i 0) s t k h (taken_there ms long j n ∙ o)

-- where no marked hop fails to close, the marks are those of the marked set
pub rested_marks : (hs : List ℕ) → Ascending hs → {ms : List ℕ} → Marking hs (marked hs) ms → ClosesUpTo hs (count hs) ms → (out : List ℕ) →
    drop (count hs) ms ≡ drop (count hs) out → ms ≡ on_front (marks_of hs (marked hs)) out
unfolding ClosesIfMarked
rested_marks hs up m rest = fixpoint_marks (closes hs) (marked_same hs) up m rest
