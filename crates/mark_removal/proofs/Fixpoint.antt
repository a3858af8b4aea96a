-- Hops that do not close lose their marks until none does, for any condition F; m is the greatest
-- set that F keeps. No hop of m loses its mark as long as hops of m close with any set that
-- contains m. If every marked hop closes, the set that the marks are is m. Assumes nothing.
use Prim.Native.Nat.{ℕ, ◌<◌, ◌≤◌}
use mathlib.Core.Path.{◌≡◌, refl, sym, ◌∙◌}
use mathlib.Core.Bool.{true}
use mathlib.Core.List.{List}
use mathlib.Core.Logic.{◌⊎◌, inl, inr, ⊎_elim}
use native.Mathlib.Omega.{arith}
use lib.ListN.{length, get_or, drop}
use borrow.Author.Tests.{eqb-true, eq-eqb}
use Rattle.base_bounded.proofs.Bools.{and_yes}
use Rattle.base_bounded.proofs.Quantifiers.{any_found, tally_within}
use Rattle.base_outputs.specs.Output.{on_front}
use Rattle.graph.specs.Hops.{count, from, to, is, has}
use Rattle.graph.specs.Order.{Ascending}
use Rattle.graph.proofs.Places.{is_yes, is_from, is_to}
use Rattle.base_fixpoint.specs.Pairs.{Pairs, In, Subset}
use Rattle.base_fixpoint.specs.Approximants.{Operator}
use Rattle.mark_confluence.specs.Rounds.{silent_hops}
use Rattle.mark_confluence.specs.Internal.MarkSet.{is_marked, mark_set, every_pair}
use Rattle.mark_confluence.specs.Marks.{mark_of, marks_of}
use Rattle.mark_confluence.proofs.MarkSet.{mark_set_says, mark_set_yes, mark_set_at_lem}
use Rattle.mark_confluence.proofs.Marks.{mark_bit, mark_one, mark_says, marks_capacity, marks_bits, marks_silent, marks_mark_set, marks_made_lem}
use Rattle.mark_removal.specs.Internal.Removal.{mark_count, Marking, Swept}

pub count_within : (hs ms : List ℕ) → mark_count hs ms ≤ count hs
unfolding mark_count
count_within hs ms = tally_within (is_marked ms) (count hs)

module _ {hs : List ℕ} {m : Pairs} where
  pub on_or_off : {ms : List ℕ} → Marking hs m ms → {i : ℕ} → i < count hs → (get_or ms i 0 ≡ 0 → ⊥) → is_marked ms i ≡ true
  unfolding is_marked
  on_or_off {ms} k {i} l n = ⊎_elim (λ z. absurd (n z)) (λ o. eq-eqb (get_or ms i 0) 1 o) (k.bits i l)

  -- no mark went
  pub swept_none : {Known : List ℕ → Type 0} {ms : List ℕ} → Marking hs m ms → Known ms → Swept hs m Known ms ms 0
  swept_none k s = record { marking = k; beyond = refl; fewer = omega arith; same = λ q. (refl, s) }

  pub swept_rests : {Known : List ℕ → Type 0} {ms new : List ℕ} {r : ℕ} → Swept hs m Known ms new r → r ≡ 0 → Known new
  swept_rests s q = let (e, f) = s.same q in rw e f

-- the marks that sweeps begin with
pub first_marking : (hs : List ℕ) (m : Pairs) → Subset (In m) (In (silent_hops hs)) → (ms out : List ℕ) → count hs ≤ length out → ms ≡ on_front (marks_of hs every_pair) out → Marking hs m ms
first_marking hs m silent ms out capacity e =
    record {
      capacity = rw (marks_capacity hs every_pair ms out e capacity) capacity;
      bits = marks_bits hs every_pair ms out e;
      silent = marks_silent hs every_pair ms out e;
      holds = λ s t h. marks_mark_set hs every_pair ms out e s t ∙ and_yes (silent s t h) refl;
    }

-- the end of sweeping: m is what F keeps, and each marked hop closes
module _ {hs : List ℕ} {m : Pairs} (F : Operator)
    (only : (v : Pairs) → Subset (In v) (In (silent_hops hs)) → Subset (In v) (In (F v)) → Subset (In m) (In v) → v ≡ m)
    {ms : List ℕ} (up : Ascending hs) (k : Marking hs m ms)
    (rest : (i : ℕ) → i < count hs → is_marked ms i ≡ true → F (mark_set hs ms) (from hs i) (to hs i) ≡ true) where
  -- where no marked hop fails to close, the set that the marks are is m
  fixpoint_set : mark_set hs ms ≡ m
  unfolding has
  fixpoint_set = only (mark_set hs ms) silent closed k.holds where
    silent : (s t : ℕ) → mark_set hs ms s t ≡ true → has hs s 0 t ≡ true
    silent s t e = let (i, l, h, o) = mark_set_says hs ms s t e in any_found (is hs s 0 t) (count hs) l h

    closed : (s t : ℕ) → mark_set hs ms s t ≡ true → F (mark_set hs ms) s t ≡ true
    closed s t e = let (i, l, h, o) = mark_set_says hs ms s t e in rw (is_from hs s 0 t i h, is_to hs s 0 t i h) at (rest i l o)

  -- and each mark is the one of the set that they are
  mark_is : (i : ℕ) → i < count hs → get_or ms i 0 ≡ mark_of hs (mark_set hs ms) i
  unfolding is_marked
  mark_is i l = go (k.bits i l) (mark_bit hs (mark_set hs ms) i) where
    go : (get_or ms i 0 ≡ 0) ⊎ (get_or ms i 0 ≡ 1) → (mark_of hs (mark_set hs ms) i ≡ 0) ⊎ (mark_of hs (mark_set hs ms) i ≡ 1) → get_or ms i 0 ≡ mark_of hs (mark_set hs ms) i
    go (inl z) (inl y) = z ∙ sym y
    go (inl z) (inr y) =
        let (q, h) = mark_says hs (mark_set hs ms) i y in
        let o : is_marked ms i ≡ true = mark_set_at_lem hs ms up (from hs i) (to hs i) l (is_yes hs (from hs i) 0 (to hs i) i refl q refl) ∙ h in
        absurd (omega (arith, eqb-true (get_or ms i 0) 1 o))
    go (inr z) y =
        let o : is_marked ms i ≡ true = eq-eqb (get_or ms i 0) 1 z in
        let q = k.silent i l o in
        z ∙ sym (mark_one hs (mark_set hs ms) i q (mark_set_yes hs ms (from hs i) (to hs i) l (is_yes hs (from hs i) 0 (to hs i) i refl q refl) o))

  -- so the marks are those of m
  pub fixpoint_marks : (out : List ℕ) → drop (count hs) ms ≡ drop (count hs) out → ms ≡ on_front (marks_of hs m) out
  fixpoint_marks out e = rw (← fixpoint_set) (marks_made_lem hs (mark_set hs ms) ms out k.capacity mark_is e)
