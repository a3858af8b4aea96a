-- The hops of one state in an ascending list: their labels do not descend, so those of one label
-- stand together. By this, the ways out of the walk over s2's hops. Assumes nothing.
use Prim.Native.Nat.{ℕ, ◌<◌, ◌≤◌}
use mathlib.Core.Path.{◌≡◌, sym, ◌∙◌}
use mathlib.Core.Bool.{Bool, true, false, not}
use mathlib.Core.List.{List}
use mathlib.Core.Logic.{inl, inr, ⊎_elim}
use native.Mathlib.Nat.{eq-or-lt_of_le}
use native.Mathlib.Omega.{arith}
use lib.Dec.{eqb}
use borrow.Author.Tests.{eqb-true, eqb-false, not-true, not-false}
use Rattle.graph.specs.Hops.{count, from, label, to, labelled, hop_at}
use Rattle.graph.specs.Order.{Ascending}
use Rattle.base_bounded.proofs.Bools.{lt_or_le}
use Rattle.graph.proofs.Places.{labelled_yes, labelled_parts}
use Rattle.graph.proofs.Ordered.{Below, before_below, ascending_lt}
use Rattle.base_fixpoint.specs.Pairs.{Pairs}
use Rattle.mark_confluence.specs.Rounds.{closing, hop_answers}
use Rattle.mark_confluence.proofs.Closing.{closing_is, hop_answers_lem, none_answers}
use Rattle.graph_successors.specs.Internal.Row.{Row}

-- what `!=` says of two labels, by their numbers
pub unlike : {a b : ℕ} → true ≡ not (eqb a b) → a ≡ b → ⊥
unlike e = eqb-false _ _ (not-true _ (sym e))

pub alike : {a b : ℕ} → false ≡ not (eqb a b) → a ≡ b
alike e = eqb-true _ _ (not-false _ (sym e))

module _ (hs : List ℕ) (up : Ascending hs) where
  pub ascending_label : {i j : ℕ} → i ≤ j → j < count hs → from hs i ≡ from hs j → label hs i ≤ label hs j
  ascending_label {i} {j} h l e =
      ⊎_elim (λ q. rw q (omega arith)) (λ m. go (before_below (hop_at hs i) (hop_at hs j) (ascending_lt hs up j m l))) (eq-or-lt_of_le h) where
        go : Below (hop_at hs i) (hop_at hs j) → label hs i ≤ label hs j
        go (inl k) = absurd (omega arith)
        go (inr (q, inl k)) = omega arith
        go (inr (q, inr (k, m))) = omega arith

  -- the walk over a row comes to a place k of the label, whose end s4 closes s3
  pub row_answers : (u : Pairs) (s a s3 : ℕ) {at past : ℕ} → Row hs s a at past → {k s4 : ℕ} {v : Bool} → at ≤ k → k < past → label hs k ≡ a →
      s4 ≡ to hs k → v ≡ closing u s3 s4 → v ≡ true → true ≡ hop_answers hs (closing u) s a s3
  row_answers u s a s3 row {k} l m q t e d =
      sym (hop_answers_lem hs u s a s3 (omega (arith, row.within)) (labelled_yes hs s a k (row.own k l m) q) (closing_is u s3 t e d))

  -- the walk over a row stops at a place k: none before it closes s3, and the one there, if any,
  -- has another label. So no hop answers.
  pub row_ends : (u : Pairs) (s a s3 : ℕ) {at past : ℕ} → Row hs s a at past → (k : ℕ) → at ≤ k →
      ((j : ℕ) → at ≤ j → j < k → closing u s3 (to hs j) ≡ false) → (k < past → label hs k ≡ a → ⊥) →
      false ≡ hop_answers hs (closing u) s a s3
  row_ends u s a s3 {at} {past} row k l f g = sym (none_answers hs u s a s3 at past inside none) where
    inside : (j : ℕ) → j < count hs → labelled hs s a j ≡ true → (at ≤ j) × (j < past)
    inside j m e = let (p, q) = labelled_parts hs s a j e in row.rest j m p (omega arith)

    late : (j : ℕ) → at ≤ j → j < past → k ≤ j → labelled hs s a j ≡ true → ⊥
    late j b m n e =
        let (p, q) = labelled_parts hs s a j e in
        let w : k < past = omega arith in
        let d : from hs k ≡ from hs j = row.own k l w ∙ sym p in
        let h : label hs k ≤ label hs j = ascending_label n (omega (arith, row.within)) d in
        g w (omega (arith, row.low k l w))

    none : (j : ℕ) → at ≤ j → j < past → labelled hs s a j ≡ true → closing u s3 (to hs j) ≡ false
    none j b m e = ⊎_elim (λ n. f j b n) (λ n. absurd (late j b m n e)) (lt_or_le j k)
