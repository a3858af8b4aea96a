-- The ways out of X, Y and Z, in the words of their definitions, with the walks over the places of
-- a state's hops instead of the whole list. Assumes nothing.
use Rattle.std.proofs.Common.{Result, Ok, Err}
use Prim.Native.Nat.{ℕ, zero, suc, ◌-◌, ◌<◌, ◌≤◌}
use mathlib.Core.Path.{◌≡◌, refl, sym, ◌∙◌}
use mathlib.Core.Bool.{Bool, true, false, not}
use mathlib.Core.List.{List}
use mathlib.Core.Logic.{◌⊎◌, inl, inr}
use native.Mathlib.Numerals.{sub-one}
use native.Mathlib.Omega.{arith}
use borrow.Author.Tests.{not-true}
use Rattle.base_bounded.proofs.Bools.{clash, no_test, eq_or_not}
use Rattle.base_bounded.proofs.Quantifiers.{all_fails}
use Rattle.graph.specs.Hops.{count, from, label, to, hop_of, has}
use Rattle.graph.specs.Order.{Ascending}
use Rattle.graph.specs.Search.{first_of, past_of}
use Rattle.graph.specs.Internal.Search.{labelled_from, labelled_past, placed}
use Rattle.graph.specs.declared.Hop.{Hop}
use Rattle.graph.proofs.Places.{has_at, is_from, is_label, is_to}
use Rattle.graph.proofs.Lookup.{range_holds, range_only, past_within, all_range, at_place, gap_has}
use Rattle.graph_successors.proofs.Rows.{labelled_holds, labelled_only}
use Rattle.base_fixpoint.specs.Pairs.{Pairs}
use Rattle.mark_confluence.specs.Rounds.{closing, hop_answers, answers, tried, closes, survives}
use Rattle.mark_confluence.specs.Internal.Rounds.{answered}
use Rattle.mark_confluence.proofs.Closing.{closing_is, closing_other, hop_answers_lem, none_answers, answers_hop, answers_else, answers_last, answered_at, tried_own, tried_other}
use Rattle.mark_confluence.proofs.Rounds.{survives_none, survives_more, survives_silent}

-- what holds of each place from lo up to j
abbrev pub Through : (ℕ → Type 0) → ℕ → ℕ → Type 0
Through P lo j = (q : ℕ) → lo ≤ q → q < j → P q

module _ (hs : List ℕ) (up : Ascending hs) (u : Pairs) where
  -- X of a silent hop s1 to s2: a walk over the hops of s1 up to `past` has passed all of them, or
  -- met one that is not answered from s2
  module _ (s1 s2 : ℕ) {past : ℕ} (e : past ≡ past_of hs s1) {j : ℕ} where
    pub closes_all : past ≤ j → Through (λ (q : ℕ). answered hs u s2 q ≡ true) (first_of hs s1) j → true ≡ closes hs u s1 s2
    unfolding closes
    closes_all m f =
        sym (all_range (tried hs (answers hs (closing u)) s1 s2) (count hs) (first_of hs s1) (past_of hs s1) (λ q l d. range_holds hs up s1 l (own q d))
        (λ q a b. tried_own hs u s1 s2 q (range_only hs up s1 (omega (arith, past_within hs up s1)) a b) ∙ f q a (omega arith))) where
          own : (q : ℕ) → tried hs (answers hs (closing u)) s1 s2 q ≡ false → from hs q ≡ s1
          own q d = go (eq_or_not (from hs q) s1) where
            go : (from hs q ≡ s1) ⊎ (from hs q ≡ s1 → ⊥) → from hs q ≡ s1
            go (inl p) = p
            go (inr n) = clash (tried_other hs u s1 s2 q n) d

    pub closes_not : j < past → first_of hs s1 ≤ j → {v : Bool} → v ≡ answered hs u s2 j → not v ≡ true → false ≡ closes hs u s1 s2
    unfolding closes
    closes_not b a {v} d n =
        let l : j < count hs = omega (arith, past_within hs up s1) in
        let w : answered hs u s2 j ≡ false = sym d ∙ not-true v n in
        sym (all_fails (tried hs (answers hs (closing u)) s1 s2) (count hs) l (tried_own hs u s1 s2 j (range_only hs up s1 l a (omega arith)) ∙ w))

  -- Y of the hop at place i, labelled a to s3: a walk over the hops of s2 labelled a, up to `past`,
  -- comes to one whose end s4 closes s3 ..
  module _ (s2 i : ℕ) {a s3 past j : ℕ} (x : a ≡ label hs i) (y : s3 ≡ to hs i) (p : past ≡ labelled_past hs s2 a) where
    pub answered_hop : j < past → labelled_from hs s2 a ≤ j → {s4 : ℕ} {v : Bool} → s4 ≡ to hs j → v ≡ closing u s3 s4 → v ≡ true → true ≡ answered hs u s2 i
    answered_hop hi lo q e d =
        let (l, h) = labelled_only hs up s2 a lo (omega arith) in
        let w : closing u s3 (to hs j) ≡ true = closing_is u s3 q e d in
        sym (answers_hop hs u s2 a s3 (hop_answers_lem hs u s2 a s3 l h w)) ∙ answered_at hs u s2 i x y

    -- .. or has passed all of them, and none closes: then s2 itself does where a is silent
    module _ (m : past ≤ j) (f : Through (λ (q : ℕ). closing u s3 (to hs q) ≡ false) (labelled_from hs s2 a) j) where
      none : hop_answers hs (closing u) s2 a s3 ≡ false
      none =
          none_answers hs u s2 a s3 (labelled_from hs s2 a) (labelled_past hs s2 a) (λ q l e. labelled_holds hs up s2 a l e)
          (λ q lo hi e. f q lo (omega arith))

      pub answered_last : a ≡ 0 → {v : Bool} → v ≡ closing u s3 s2 → v ≡ answered hs u s2 i
      answered_last z e = e ∙ answers_last hs u s2 a s3 none z ∙ answered_at hs u s2 i x y

      pub answered_no : (a ≡ 0 → ⊥) → false ≡ answered hs u s2 i
      answered_no n = sym none ∙ answers_else hs u s2 a s3 (λ z. absurd (n z)) ∙ answered_at hs u s2 i x y

-- Z: the silent hop s3 to s4 where the search finds it, or does not
module _ (hs : List ℕ) (s3 s4 : ℕ) {h : Hop} {f : Result ℕ ℕ} (q : h ≡ hop_of s3 0 s4) (e : f ≡ placed hs h) where
  found : {g : Result ℕ ℕ} → f ≡ g → placed hs (hop_of s3 0 s4) ≡ g
  found d = rw q at (sym e ∙ d)

  pub found_silent : {i : ℕ} → f ≡ Ok i → (i < count hs) × (label hs i ≡ 0)
  found_silent {i} d = let (l, w) = at_place hs (hop_of s3 0 s4) (found d) in (l, is_label hs s3 0 s4 i w)

  module _ (k : ℕ) (n : s3 ≡ s4 → ⊥) where
    pub closing_at : {i : ℕ} → f ≡ Ok i → {v : Bool} → v ≡ survives hs k (from hs i) (to hs i) → v ≡ closing (survives hs k) s3 s4
    closing_at {i} d g =
        let w = (at_place hs (hop_of s3 0 s4) (found d)).1 in
        g ∙ rw (is_from hs s3 0 s4 i w, is_to hs s3 0 s4 i w) (sym (closing_other (survives hs k) s3 s4 n))

    pub closing_none : {i : ℕ} → Ascending hs → f ≡ Err i → false ≡ closing (survives hs k) s3 s4
    closing_none up d =
        sym (no_test (survives hs k s3 s4) (λ w. clash (survives_silent hs k s3 s4 w) (gap_has hs (hop_of s3 0 s4) up (found d)))) ∙
        sym (closing_other (survives hs k) s3 s4 n)

-- the silent hop at place i: no round is asked, or one more than k - 1
module _ (hs : List ℕ) (k i : ℕ) (l : i < count hs) (e : label hs i ≡ 0) where
  there : has hs (from hs i) 0 (to hs i) ≡ true
  there = rw e at (has_at hs l)

  pub no_round : k ≡ 0 → true ≡ survives hs k (from hs i) (to hs i)
  no_round z = rw z (sym (survives_none hs (from hs i) (to hs i) ∙ there))

  next : (k : ℕ) → (k ≡ 0 → ⊥) → closes hs (survives hs (k - 1)) (from hs i) (to hs i) ≡ survives hs k (from hs i) (to hs i)
  next zero n = absurd (n refl)
  next (suc k) n = rw (survives_more hs k (from hs i) (to hs i), there, sub-one)

  pub one_round : (k ≡ 0 → ⊥) → {s2 : ℕ} {v : Bool} → s2 ≡ to hs i → v ≡ closes hs (survives hs (k - 1)) (from hs i) s2 → v ≡ survives hs k (from hs i) (to hs i)
  one_round n q h = h ∙ rw q (next k n)
