-- A list that begins with the marks of a set u: its marks are 1 or 0, 1 at silent hops only, and
-- the set that they hold is u's silent hops. Assumes nothing.
use Prim.Native.Nat.{ℕ, ◌<◌, ◌≤◌}
use mathlib.Core.Path.{◌≡◌, refl, sym, ap, ◌∙◌}
use mathlib.Core.Bool.{Bool, true, false, cond, ◌&&◌}
use mathlib.Core.List.{List, ◌++◌}
use mathlib.Core.Logic.{◌⊎◌, inl, inr, ⊎_elim}
use native.Mathlib.Omega.{arith}
use lib.ListN.{length, get_or, take, drop, take-append-drop, length-append, length-drop, get_or-append}
use lib.Seq.{drop_at, get_or-take, length-take-le, ext_get_or}
use lib.Dec.{eqb}
use borrow.Author.Tests.{eqb-true, eq-eqb}
use Rattle.base_bounded.specs.Quantifiers.{tabulate}
use Rattle.base_bounded.proofs.Bools.{and_yes, and_left, and_right, same_test}
use Rattle.base_bounded.proofs.Quantifiers.{length_tabulate, get_d_tabulate}
use Rattle.base_outputs.specs.Output.{on_front}
use Rattle.graph.specs.Hops.{count, from, label, to, has}
use Rattle.graph.proofs.Places.{is_yes, is_from, is_to, has_place, place_has}
use Rattle.base_fixpoint.specs.Pairs.{Pairs, In, Subset}
use Rattle.mark_confluence.specs.Rounds.{silent_hops}
use Rattle.mark_confluence.specs.Internal.MarkSet.{is_marked, mark_set}
use Rattle.mark_confluence.specs.Marks.{mark_of, marks_of}
use Rattle.mark_confluence.proofs.MarkSet.{mark_set_says, mark_set_yes}

-- a list that is written from the front keeps its length
pub length_so_far : (f : ℕ → ℕ) (old : List ℕ) {new : List ℕ} (i : ℕ) → i ≤ length old → new ≡ on_front (tabulate i f) old → length new ≡ length old
length_so_far f old i l e = ap length e ∙ simp (length-append, length_tabulate, length-drop) (omega arith)

-- a test as a number
bit : (b : Bool) → (◌≡◌ {A = ℕ} (cond b 1 0) 0) ⊎ (◌≡◌ {A = ℕ} (cond b 1 0) 1)
bit true = inr refl
bit false = inl refl

bit_one : (b : Bool) → ◌≡◌ {A = ℕ} (cond b 1 0) 1 → b ≡ true
bit_one true e = refl
bit_one false e = absurd (omega arith)

module _ (hs : List ℕ) (u : Pairs) where
  -- the mark of the hop at place i
  module _ (i : ℕ) where
    pub mark_bit : (mark_of hs u i ≡ 0) ⊎ (mark_of hs u i ≡ 1)
    unfolding mark_of
    mark_bit = bit (eqb (label hs i) 0 && u (from hs i) (to hs i))

    pub mark_one : label hs i ≡ 0 → u (from hs i) (to hs i) ≡ true → mark_of hs u i ≡ 1
    unfolding mark_of
    mark_one q e = rw (and_yes (eq-eqb (label hs i) 0 q) e)

    pub mark_says : mark_of hs u i ≡ 1 → (label hs i ≡ 0) × (u (from hs i) (to hs i) ≡ true)
    unfolding mark_of
    mark_says e =
        let b = bit_one (eqb (label hs i) 0 && u (from hs i) (to hs i)) e in
        (eqb-true (label hs i) 0 (and_left (eqb (label hs i) 0) _ b), and_right (eqb (label hs i) 0) _ b)

  pub length_marks : length (marks_of hs u) ≡ count hs
  unfolding marks_of
  length_marks = length_tabulate (mark_of hs u) (count hs)

  -- a list whose elements are the marks, and which is behind them what `out` is
  pub marks_made_lem : (ms out : List ℕ) → count hs ≤ length ms → ((i : ℕ) → i < count hs → get_or ms i 0 ≡ mark_of hs u i) →
      drop (count hs) ms ≡ drop (count hs) out → ms ≡ on_front (marks_of hs u) out
  unfolding marks_of
  marks_made_lem ms out capacity f e =
      sym (take-append-drop (count hs) ms) ∙ rw (e, length_marks) (ap (λ (xs : List ℕ). xs ++ drop (count hs) out) front) where
        long : length (take (count hs) ms) ≡ count hs
        long = length-take-le (count hs) ms capacity

        front : take (count hs) ms ≡ marks_of hs u
        front =
            ext_get_or 0 (take (count hs) ms) (marks_of hs u) (long ∙ sym length_marks)
            (λ i l. let k : i < count hs = rw long at l in
            get_or-take (count hs) ms i 0 k ∙ (f i k ∙ sym (get_d_tabulate (mark_of hs u) (count hs) k)))

  module _ (ms out : List ℕ) (e : ms ≡ on_front (marks_of hs u) out) where
    pub marks_capacity : count hs ≤ length out → length ms ≡ length out
    unfolding marks_of
    marks_capacity l = length_so_far (mark_of hs u) out (count hs) l e

    pub marks_beyond : drop (count hs) ms ≡ drop (count hs) out
    marks_beyond = rw (e, length_marks) (drop_at (marks_of hs u) (drop (count hs) out) (count hs) length_marks)

    pub marks_at : {i : ℕ} → i < count hs → get_or ms i 0 ≡ mark_of hs u i
    unfolding marks_of
    marks_at {i} l =
        rw e (get_or-append (marks_of hs u) (drop (length (marks_of hs u)) out) 0 i (rw length_marks l)) ∙ get_d_tabulate (mark_of hs u) (count hs) l

    pub marks_bits : (i : ℕ) → i < count hs → (get_or ms i 0 ≡ 0) ⊎ (get_or ms i 0 ≡ 1)
    marks_bits i l = ⊎_elim (λ q. inl (marks_at l ∙ q)) (λ q. inr (marks_at l ∙ q)) (mark_bit i)

    pub marks_silent : (i : ℕ) → i < count hs → is_marked ms i ≡ true → label hs i ≡ 0
    unfolding is_marked
    marks_silent i l o = (mark_says i (sym (marks_at l) ∙ eqb-true (get_or ms i 0) 1 o)).0

    -- the set that the marks hold
    pub marks_mark_set : (s t : ℕ) → mark_set hs ms s t ≡ (has hs s 0 t && u s t)
    unfolding is_marked
    marks_mark_set s t = same_test (mark_set hs ms s t) (has hs s 0 t && u s t) into back where
      into : mark_set hs ms s t ≡ true → (has hs s 0 t && u s t) ≡ true
      into h =
          let (i, l, p, o) = mark_set_says hs ms s t h in
          let (q, m) = mark_says i (sym (marks_at l) ∙ eqb-true (get_or ms i 0) 1 o) in
          and_yes
          (place_has hs s 0 t (record { at = i; within = l; from_is = is_from hs s 0 t i p; label_is = q; to_is = is_to hs s 0 t i p }))
          (rw (is_from hs s 0 t i p, is_to hs s 0 t i p) at m)

      back : (has hs s 0 t && u s t) ≡ true → mark_set hs ms s t ≡ true
      back h =
          let p = has_place hs s 0 t (and_left (has hs s 0 t) (u s t) h) in
          let m : u (from hs p.at) (to hs p.at) ≡ true = rw (p.from_is, p.to_is) (and_right (has hs s 0 t) (u s t) h) in
          mark_set_yes hs ms s t p.within (is_yes hs s 0 t p.at p.from_is p.label_is p.to_is)
          (eq-eqb (get_or ms p.at 0) 1 (marks_at p.within ∙ mark_one p.at p.label_is m))

    -- which is u where u has silent hops only
    pub mark_set_set : Subset (In u) (In (silent_hops hs)) → mark_set hs ms ≡ u
    mark_set_set w = λ k s t. same s t k where
      same : (s t : ℕ) → mark_set hs ms s t ≡ u s t
      same s t =
          marks_mark_set s t ∙ same_test (has hs s 0 t && u s t) (u s t) (and_right (has hs s 0 t) (u s t)) (λ h. and_yes (w s t h) h)

-- marks that are written over others are written over what was there before
pub marks_over : (hs : List ℕ) (u v : Pairs) {ms : List ℕ} (out : List ℕ) {new : List ℕ} → ms ≡ on_front (marks_of hs v) out → new ≡ on_front (marks_of hs u) ms → new ≡ on_front (marks_of hs u) out
marks_over hs u v {ms} out e d =
    d ∙ ap (λ (k : ℕ). marks_of hs u ++ drop k ms) (length_marks hs u) ∙
    ap (λ (rest : List ℕ). marks_of hs u ++ rest) (marks_beyond hs v ms out e) ∙ ap (λ (k : ℕ). marks_of hs u ++ drop k out) (sym (length_marks hs u))
