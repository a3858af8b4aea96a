-- Who answers: by staying, and by the hops passed so far. One hop more at a time, and in the end by
-- any hop of the graph. Assumes nothing.
use Prim.Native.Nat.{ℕ, ◌+◌, ◌<◌, ◌≤◌}
use mathlib.Core.Path.{◌≡◌, refl, sym, ap, ap₂, ◌∙◌}
use mathlib.Core.Bool.{Bool, true, false, ◌&&◌, ◌||◌}
use mathlib.Core.List.{List}
use mathlib.Core.Logic.{◌⊎◌, inl, inr}
use native.Mathlib.Numerals.{add-one}
use native.Mathlib.Omega.{arith}
use borrow.Author.Tests.{eq-eqb, eqb-true}
use lib.Bits.{bit_and, bit_or}
use lib.Dec.{eqb}
use lib.ListN.{length, get_or, set}
use Rattle.base_bounded.specs.Quantifiers.{any}
use Rattle.base_bounded.proofs.Bools.{lt_or_le, and_yes, and_left, and_right, and_no_left, or_left, or_right, or_yes}
use Rattle.base_bounded.proofs.Quantifiers.{any_found, any_at}
use Rattle.graph.specs.Hops.{count, from, label, to}
use Rattle.graph.proofs.Places.{has_place, place_has}
use Rattle.walk_silent.specs.Silent.{HopOf}
use Rattle.base_bitset.specs.Internal.Bits.{bit_in, bit_at}
use Rattle.base_bitset.proofs.Laws.{bit_and_lem, table_or, table_out, word_of, or_nothing}
use Rattle.mark_batch_tables.specs.Internal.BatchTables.{StayTable, AnswerTable}

-- two words cut, as tables have them
cut_of : (xs ys : List ℕ) (s t b : ℕ) → bit_at (bit_and (get_or xs s 0) (get_or ys t 0)) b ≡ (bit_in xs s b && bit_in ys t b)
cut_of xs ys s t b = bit_and_lem (get_or xs s 0) (get_or ys t 0) b ∙ ap₂ ◌&&◌ (word_of xs s b) (word_of ys t b)

-- staying: the first i words are done
pub record Stayed (ends : List ℕ) (silent i : ℕ) (out : List ℕ) : Type 0 where
  pub word : (p : ℕ) → p < i → get_or out p 0 ≡ bit_and (get_or ends p 0) silent

pub stayed_all : (labels : List ℕ) {ends out : List ℕ} {n : ℕ} → length ends ≡ n → length out ≡ n → Stayed ends (get_or labels 0 0) n out → StayTable labels ends out
stayed_all labels {ends} {out} {n} d e h p b = go (lt_or_le p n) where
  go : (p < n) ⊎ (n ≤ p) → bit_in out p b ≡ (bit_in ends p b && bit_in labels 0 b)
  go (inl l) = sym (word_of out p b) ∙ ap (λ (w : ℕ). bit_at w b) (h.word p l) ∙ cut_of ends labels p 0 b
  go (inr l) = table_out out p b (omega arith) ∙ sym (and_no_left (bit_in labels 0 b) (table_out ends p b (omega arith)))

module _ (hs labels ends : List ℕ) where
  -- p answers by the hop at place j
  unfoldable pub by : ℕ → ℕ → ℕ → Bool
  by p b j = eqb p (from hs j) && (bit_in ends (to hs j) b && bit_in labels (label hs j) b)

  -- staying, or by one of the first i hops
  pub record Answered (i : ℕ) (out : List ℕ) : Type 0 where
    pub bit : (p b : ℕ) → bit_in out p b ≡ ((bit_in ends p b && bit_in labels 0 b) || any i (by p b))

  pub answered_none : (out : List ℕ) → StayTable labels ends out → Answered 0 out
  unfolding any
  answered_none out h = record { bit = λ p b. h p b ∙ sym (or_nothing (bit_in ends p b && bit_in labels 0 b)) }

  shuffle : (x y z : Bool) → ((x || y) || z) ≡ (x || (z || y))
  shuffle true y z = refl
  shuffle false true true = refl
  shuffle false true false = refl
  shuffle false false z = sym (or_nothing z)

  pub answered_more : {i : ℕ} {out : List ℕ} → Answered i out → {f t a : ℕ} → f ≡ from hs i → t ≡ to hs i → a ≡ label hs i → f < length out →
      Answered (i + 1) (set out f (bit_or (get_or out f 0) (bit_and (get_or ends t 0) (get_or labels a 0))))
  unfolding any by
  answered_more {i} {out} h {f} {t} {a} ef et ea l = record { bit = turn } where
    turn : (p b : ℕ) → bit_in (set out f (bit_or (get_or out f 0) (bit_and (get_or ends t 0) (get_or labels a 0)))) p b ≡
        ((bit_in ends p b && bit_in labels 0 b) || any (i + 1) (by p b))
    turn p b =
        table_or out f (bit_and (get_or ends t 0) (get_or labels a 0)) p b l
        ∙ ap₂ ◌||◌ (h.bit p b) (ap (λ (x : Bool). eqb p f && x) (cut_of ends labels t a b))
        ∙ shuffle (bit_in ends p b && bit_in labels 0 b) (any i (by p b)) (eqb p f && (bit_in ends t b && bit_in labels a b))
        ∙ rw (add-one, ef, et, ea)

  -- what it says of one state and bit, in the words of the definition
  module _ (p b : ℕ) where
    abbrev Some : Type 0
    Some = (a : ℕ) × (q : ℕ) × (HopOf hs p a q ⊎ ((a ≡ 0) × (q ≡ p))) × (bit_in labels a b ≡ true) × (bit_in ends q b ≡ true)

    by_some : (j : ℕ) → j < count hs → by p b j ≡ true → Some
    unfolding by
    by_some j l e =
        let rest = and_right (eqb p (from hs j)) _ e in (
          label hs j,
          to hs j,
          inl (place_has hs p (label hs j) (to hs j) (record { at = j; within = l; from_is = sym (eqb-true _ _ (and_left (eqb p (from hs j)) _ e)); label_is = refl; to_is = refl })),
          and_right (bit_in ends (to hs j) b) _ rest,
          and_left (bit_in ends (to hs j) b) _ rest,
        )

    some_there : ((bit_in ends p b && bit_in labels 0 b) ≡ true) ⊎ (any (count hs) (by p b) ≡ true) → Some
    some_there (inl e) = (0, p, inr (refl, refl), and_right (bit_in ends p b) _ e, and_left (bit_in ends p b) _ e)
    some_there (inr e) = let (j, l, h) = any_at (by p b) (count hs) e in by_some j l h

    some_back : Some → ((bit_in ends p b && bit_in labels 0 b) || any (count hs) (by p b)) ≡ true
    unfolding by
    some_back (a, q, inl h, la, en) =
        let w = has_place hs p a q h in
        let e : bit_in ends (to hs w.at) b ≡ true = rw w.to_is en in
        let o : bit_in labels (label hs w.at) b ≡ true = rw w.label_is la in
        or_right (bit_in ends p b && bit_in labels 0 b)
        (any_found (by p b) (count hs) w.within (and_yes (eq-eqb _ _ (sym w.from_is)) (and_yes e o)))
    some_back (a, q, inr (z, e), la, en) = or_left _ (and_yes (rw e at en) (rw z at la))

  pub answered_all : {out : List ℕ} → Answered (count hs) out → AnswerTable hs labels ends out
  answered_all {out} h p b = (λ e. some_there p b (or_yes _ _ (sym (h.bit p b) ∙ e)), λ w. h.bit p b ∙ some_back p b w)
