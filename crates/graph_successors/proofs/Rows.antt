-- The hops of one state in an ascending list: its places bracket the search of each of them, and
-- the places of one label hold exactly its hops of that label. Assumes nothing.
use Prim.Native.Nat.{ℕ, ◌+◌, ◌<◌, ◌≤◌}
use mathlib.Core.Path.{◌≡◌, refl, sym, ◌∙◌}
use mathlib.Core.Bool.{true, false}
use mathlib.Core.List.{List}
use mathlib.Core.Logic.{inl, inr, ⊎_elim}
use native.Mathlib.Omega.{arith}
use borrow.Author.Tests.{ltb-true, ltb-false, lt-ltb, le-ltb}
use Rattle.std.proofs.lemmas.Bool.{cases_lt, false_from_ne_true}
use Rattle.graph.specs.Hops.{count, from, label, hop_of, hop_at, is, labelled}
use Rattle.graph.specs.Order.{before, Ascending}
use Rattle.graph.specs.Internal.Search.{Bracket, AbsentFrom, labelled_from, labelled_past}
use Rattle.graph.specs.Search.{first_of, past_of}
use Rattle.graph.specs.declared.Hop.{Hop}
use Rattle.base_bounded.proofs.Bools.{clash}
use Rattle.graph.proofs.Places.{is_from, labelled_yes, labelled_parts}
use Rattle.graph.proofs.Ordered.{Below, before_below, below_before}
use Rattle.graph.proofs.Lookup.{lower_law, lower_within, lower_rises, first_law, first_within, first_past, range_holds}

module _ (hs : List ℕ) (up : Ascending hs) where
  -- a hop is searched for among those of its state
  pub row_bracket : (h : Hop) {lo hi : ℕ} → lo ≡ first_of hs h.from → hi ≡ first_of hs (h.from + 1) → Bracket hs h lo hi
  unfolding past_of
  row_bracket h {lo} {hi} p q = record {
    lo_le = omega (arith, first_past hs up h.from);
    hi_le = omega (arith, first_within hs up (h.from + 1));
    below = λ j l. earlier j (rw p at l);
    above = λ j l k. later j (rw q at l) k;
  } where
    earlier : (j : ℕ) → j < first_of hs h.from → before (hop_at hs j) h ≡ true
    earlier j l =
        let m : j < count hs = omega (arith, first_within hs up h.from) in
        below_before (hop_at hs j) h (inl (ltb-true _ _ (sym (first_law hs up h.from m) ∙ lt-ltb _ _ l)))

    later : (j : ℕ) → first_of hs (h.from + 1) ≤ j → j < count hs → before (hop_at hs j) h ≡ false
    later j l k = false_from_ne_true (before (hop_at hs j) h) (λ e. go (before_below (hop_at hs j) h e)) where
      past : h.from + 1 ≤ from hs j
      past = ltb-false _ _ (sym (first_law hs up (h.from + 1) k) ∙ le-ltb _ _ l)

      go : Below (hop_at hs j) h → ⊥
      go (inl m) = omega (arith, past)
      go (inr (e, m)) = omega (arith, past)

  -- and stands behind none of them
  pub row_absent : (h : Hop) {hi : ℕ} → hi ≡ first_of hs (h.from + 1) → AbsentFrom hs h hi
  unfolding AbsentFrom past_of
  row_absent h {hi} q j l k =
      false_from_ne_true (is hs h.from h.label h.to j)
      (λ e. let (a, b) = range_holds hs up h.from k (is_from hs h.from h.label h.to j e) in omega arith)

-- the hops of s labelled a
module _ (hs : List ℕ) (up : Ascending hs) (s a : ℕ) where
  pub labelled_holds : {i : ℕ} → i < count hs → labelled hs s a i ≡ true → (labelled_from hs s a ≤ i) × (i < labelled_past hs s a)
  unfolding labelled_from labelled_past
  labelled_holds {i} l e = (
    ltb-false _ _ (lower_law hs (hop_of s a 0) up l ∙ false_from_ne_true (before (hop_at hs i) (hop_of s a 0)) (λ d. go (before_below (hop_at hs i) (hop_of s a 0) d))),
    ltb-true _ _ (lower_law hs (hop_of s (a + 1) 0) up l ∙ below_before (hop_at hs i) (hop_of s (a + 1) 0) (inr (parts.0, inl (omega (arith, parts))))),
  ) where
    parts : (from hs i ≡ s) × (label hs i ≡ a)
    parts = labelled_parts hs s a i e

    go : Below (hop_at hs i) (hop_of s a 0) → ⊥
    go (inl m) = omega (arith, parts)
    go (inr (d, inl m)) = omega (arith, parts)
    go (inr (d, inr (f, m))) = omega arith

  pub labelled_within : labelled_past hs s a ≤ count hs
  unfolding labelled_from labelled_past
  labelled_within = lower_within hs (hop_of s (a + 1) 0)

  pub labelled_only : {i : ℕ} → labelled_from hs s a ≤ i → i < labelled_past hs s a → (i < count hs) × (labelled hs s a i ≡ true)
  unfolding labelled_from labelled_past
  labelled_only {i} lo hi =
      (l, go (before_below (hop_at hs i) (hop_of s (a + 1) 0) (sym (lower_law hs (hop_of s (a + 1) 0) up l) ∙ lt-ltb _ _ hi)) (sym (lower_law hs (hop_of s a 0) up l) ∙ le-ltb _ _ lo)) where
        l : i < count hs
        l = omega (arith, labelled_within)

        go : Below (hop_at hs i) (hop_of s (a + 1) 0) → before (hop_at hs i) (hop_of s a 0) ≡ false → labelled hs s a i ≡ true
        go (inl m) e = clash (below_before (hop_at hs i) (hop_of s a 0) (inl m)) e
        go (inr (p, inl m)) e =
            ⊎_elim (λ k. clash (below_before (hop_at hs i) (hop_of s a 0) (inr (p, inl k))) e)
            (λ k. labelled_yes hs s a i p (omega arith)) (cases_lt (label hs i) a)
        go (inr (p, inr (q, m))) e = absurd (omega arith)

  -- where they lie among the hops of s
  pub first_labelled : first_of hs s ≤ labelled_from hs s a
  unfolding first_of labelled_from
  first_labelled = lower_rises hs up (hop_of s 0 0) (hop_of s a 0) (false_from_ne_true (before (hop_of s a 0) (hop_of s 0 0)) (λ e. go (before_below (hop_of s a 0) (hop_of s 0 0) e))) where
    go : Below (hop_of s a 0) (hop_of s 0 0) → ⊥
    go (inl l) = omega arith
    go (inr (e, inl l)) = omega arith
    go (inr (e, inr (f, l))) = omega arith

  pub labelled_rising : labelled_from hs s a ≤ labelled_past hs s a
  unfolding labelled_from labelled_past
  labelled_rising = lower_rises hs up (hop_of s a 0) (hop_of s (a + 1) 0) (false_from_ne_true (before (hop_of s (a + 1) 0) (hop_of s a 0)) (λ e. go (before_below (hop_of s (a + 1) 0) (hop_of s a 0) e))) where
    go : Below (hop_of s (a + 1) 0) (hop_of s a 0) → ⊥
    go (inl l) = omega arith
    go (inr (e, inl l)) = omega arith
    go (inr (e, inr (f, l))) = omega arith

  pub labelled_past_lem : labelled_past hs s a ≤ past_of hs s
  unfolding first_of past_of labelled_from labelled_past
  labelled_past_lem = lower_rises hs up (hop_of s (a + 1) 0) (hop_of (s + 1) 0 0) (false_from_ne_true (before (hop_of (s + 1) 0 0) (hop_of s (a + 1) 0)) (λ e. go (before_below (hop_of (s + 1) 0 0) (hop_of s (a + 1) 0) e))) where
    go : Below (hop_of (s + 1) 0 0) (hop_of s (a + 1) 0) → ⊥
    go (inl l) = omega arith
    go (inr (e, l)) = omega arith

-- the silent hops of a state are its first ones
pub silent_first : (hs : List ℕ) (s : ℕ) → labelled_from hs s 0 ≡ first_of hs s
unfolding first_of labelled_from
silent_first hs s = refl
