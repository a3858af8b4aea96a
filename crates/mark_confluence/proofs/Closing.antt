-- What the tests `closing`, `answers` and `closes` say, and the other way round: `closes hs u` is
-- document 01's condition with "in U" read as `u s t ≡ true`. So they only grow with the set.
-- Assumes nothing.
use Prim.Native.Nat.{ℕ, ◌<◌, ◌≤◌}
use mathlib.Core.Path.{◌≡◌, refl, sym, ◌∙◌}
use mathlib.Core.Bool.{Bool, true, false, ◌&&◌, ◌||◌, or-false}
use mathlib.Core.List.{List}
use mathlib.Core.Logic.{◌⊎◌, inl, inr, ⊎_elim}
use lib.Dec.{eqb}
use borrow.Author.Tests.{eq-eqb, ne_eqb, eqb-true}
use Rattle.base_bounded.specs.Quantifiers.{any}
use Rattle.graph.specs.Hops.{count, from, label, to, labelled, has}
use Rattle.base_bounded.proofs.Bools.{clash, and_yes, and_left, and_right, or_left, or_right, or_yes, no_test, eq_or_not}
use Rattle.graph.proofs.Places.{labelled_yes, labelled_parts, has_at, has_place, place_has}
use Rattle.graph.proofs.Lookup.{any_range}
use Rattle.base_bounded.proofs.Quantifiers.{all_at, all_yes, any_at, any_found}
use Rattle.base_fixpoint.specs.Pairs.{Pairs, In}
use Rattle.mark_confluence.specs.Rounds.{FirstPoint, closing, answer, hop_answers, answers, tried, closes}
use Rattle.mark_confluence.specs.Internal.Rounds.{answered}

-- "there is an s4 such that ..": a hop labelled a to s3 is answered from s2
abbrev pub Answered : List ℕ → (ℕ → ℕ → Type 0) → ℕ → ℕ → ℕ → Type 0
Answered hs U s2 a s3 = (s4 : ℕ) × FirstPoint hs s2 a s4 × ((s3 ≡ s4) ⊎ U s3 s4)

-- "each hop s1, a, s3" is
abbrev pub Closed : List ℕ → (ℕ → ℕ → Type 0) → ℕ → ℕ → Type 0
Closed hs U s1 s2 = (a s3 : ℕ) → has hs s1 a s3 ≡ true → Answered hs U s2 a s3

-- Z
module _ (u : Pairs) (s3 s4 : ℕ) where
  pub closing_yes : (s3 ≡ s4) ⊎ In u s3 s4 → closing u s3 s4 ≡ true
  unfolding closing
  closing_yes (inl e) = or_left (u s3 s4) (eq-eqb s3 s4 e)
  closing_yes (inr h) = or_right (eqb s3 s4) h

  pub closing_says : closing u s3 s4 ≡ true → (s3 ≡ s4) ⊎ In u s3 s4
  unfolding closing
  closing_says e = ⊎_elim (λ h. inl (eqb-true s3 s4 h)) (λ h. inr h) (or_yes (eqb s3 s4) (u s3 s4) e)

  -- the same as equations, for the two ways of the code
  pub closing_same : s3 ≡ s4 → closing u s3 s4 ≡ true
  closing_same e = closing_yes (inl e)

  pub closing_other : (s3 ≡ s4 → ⊥) → closing u s3 s4 ≡ u s3 s4
  unfolding closing
  closing_other n = rw (ne_eqb s3 s4 n)

-- what the code found out, v, of the closing of s3 by a state s4 that is t
pub closing_is : (u : Pairs) (s3 : ℕ) {s4 t : ℕ} {v b : Bool} → s4 ≡ t → v ≡ closing u s3 s4 → v ≡ b → closing u s3 t ≡ b
closing_is u s3 q e d = rw q at (sym e ∙ d)

-- Y over any set of pairs z, in the place of the closing: there is an s4 by the first point with
-- s3, s4 in z
abbrev pub Reaches : List ℕ → (ℕ → ℕ → Type 0) → ℕ → ℕ → ℕ → Type 0
Reaches hs Z s2 a s3 = (s4 : ℕ) × FirstPoint hs s2 a s4 × Z s3 s4

module _ (hs : List ℕ) (z : Pairs) (s2 a s3 : ℕ) where
  pub reaches_yes : Reaches hs (In z) s2 a s3 → answers hs z s2 a s3 ≡ true
  unfolding answers hop_answers answer
  reaches_yes (s4, inl h, e) =
      let p = has_place hs s2 a s4 h in
      or_right (eqb a 0 && z s3 s2)
      (any_found (answer hs z s2 a s3) (count hs) p.within (and_yes (labelled_yes hs s2 a p.at p.from_is p.label_is) (rw p.to_is e)))
  reaches_yes (s4, inr (q, r), e) = or_left (any (count hs) (answer hs z s2 a s3)) (and_yes (eq-eqb a 0 q) (rw r at e))

  pub reaches_says : answers hs z s2 a s3 ≡ true → Reaches hs (In z) s2 a s3
  unfolding answers hop_answers answer
  reaches_says e = go (or_yes (eqb a 0 && z s3 s2) (any (count hs) (answer hs z s2 a s3)) e) where
    go : ((eqb a 0 && z s3 s2) ≡ true) ⊎ (any (count hs) (answer hs z s2 a s3) ≡ true) → Reaches hs (In z) s2 a s3
    go (inl h) = (s2, inr (eqb-true a 0 (and_left (eqb a 0) (z s3 s2) h), refl), and_right (eqb a 0) (z s3 s2) h)
    go (inr h) =
        let (j, l, w) = any_at (answer hs z s2 a s3) (count hs) h in
        let (f, g) = labelled_parts hs s2 a j (and_left (labelled hs s2 a j) (z s3 (to hs j)) w) in
        (to hs j, inl (place_has hs s2 a (to hs j) (record { at = j; within = l; from_is = f; label_is = g; to_is = refl })), and_right (labelled hs s2 a j) (z s3 (to hs j)) w)

module _ (hs : List ℕ) where
  module _ (u : Pairs) where
    -- Y: s2 itself answers, or the hop at a place does
    pub hop_answers_lem : (s2 a s3 : ℕ) {j : ℕ} → j < count hs → labelled hs s2 a j ≡ true → closing u s3 (to hs j) ≡ true → hop_answers hs (closing u) s2 a s3 ≡ true
    unfolding hop_answers answer
    hop_answers_lem s2 a s3 l h e = any_found (answer hs (closing u) s2 a s3) (count hs) l (and_yes h e)

    -- no hop answers where those labelled a lie in a range and none in it closes
    pub none_answers : (s2 a s3 lo hi : ℕ) → ((j : ℕ) → j < count hs → labelled hs s2 a j ≡ true → (lo ≤ j) × (j < hi)) →
        ((j : ℕ) → lo ≤ j → j < hi → labelled hs s2 a j ≡ true → closing u s3 (to hs j) ≡ false) → hop_answers hs (closing u) s2 a s3 ≡ false
    unfolding hop_answers answer
    none_answers s2 a s3 lo hi f g = any_range (answer hs (closing u) s2 a s3) (count hs) lo hi inside none where
      inside : (j : ℕ) → j < count hs → answer hs (closing u) s2 a s3 j ≡ true → (lo ≤ j) × (j < hi)
      inside j l e = f j l (and_left (labelled hs s2 a j) (closing u s3 (to hs j)) e)

      none : (j : ℕ) → lo ≤ j → j < hi → answer hs (closing u) s2 a s3 j ≡ false
      none j l m =
          no_test (answer hs (closing u) s2 a s3 j) (λ e. clash (and_right (labelled hs s2 a j) (closing u s3 (to hs j)) e)
          (g j l m (and_left (labelled hs s2 a j) (closing u s3 (to hs j)) e)))

    pub answers_still : (s2 a s3 : ℕ) → a ≡ 0 → closing u s3 s2 ≡ true → answers hs (closing u) s2 a s3 ≡ true
    unfolding answers
    answers_still s2 a s3 q e = or_left (hop_answers hs (closing u) s2 a s3) (and_yes (eq-eqb a 0 q) e)

    pub answers_hop : (s2 a s3 : ℕ) → hop_answers hs (closing u) s2 a s3 ≡ true → answers hs (closing u) s2 a s3 ≡ true
    unfolding answers
    answers_hop s2 a s3 e = or_right (eqb a 0 && closing u s3 s2) e

    -- where s2 itself does not answer, a hop must; and where no hop does, s2 itself must
    pub answers_else : (s2 a s3 : ℕ) → (a ≡ 0 → closing u s3 s2 ≡ false) → hop_answers hs (closing u) s2 a s3 ≡ answers hs (closing u) s2 a s3
    unfolding answers
    answers_else s2 a s3 f = go (eqb a 0) refl where
      go : (t : Bool) → eqb a 0 ≡ t → hop_answers hs (closing u) s2 a s3 ≡ ((t && closing u s3 s2) || hop_answers hs (closing u) s2 a s3)
      go true e = rw (f (eqb-true a 0 e))
      go false e = refl

    pub answers_last : (s2 a s3 : ℕ) → hop_answers hs (closing u) s2 a s3 ≡ false → a ≡ 0 → closing u s3 s2 ≡ answers hs (closing u) s2 a s3
    unfolding answers
    answers_last s2 a s3 e z = rw (eq-eqb a 0 z, e) (sym (or-false (closing u s3 s2)))

    pub answers_yes : (s2 a s3 : ℕ) → Answered hs (In u) s2 a s3 → answers hs (closing u) s2 a s3 ≡ true
    answers_yes s2 a s3 (s4, x, y) = reaches_yes hs (closing u) s2 a s3 (s4, x, closing_yes u s3 s4 y)

    pub answers_says : (s2 a s3 : ℕ) → answers hs (closing u) s2 a s3 ≡ true → Answered hs (In u) s2 a s3
    answers_says s2 a s3 e = let (s4, x, y) = reaches_says hs (closing u) s2 a s3 e in (s4, x, closing_says u s3 s4 y)

    -- the same of the hop at place j, labelled a to s3
    pub answered_at : (s2 j : ℕ) {a s3 : ℕ} → a ≡ label hs j → s3 ≡ to hs j → answers hs (closing u) s2 a s3 ≡ answered hs u s2 j
    unfolding answered
    answered_at s2 j p q = rw (p, q)

    -- "The hop s1 to s2 itself is among the hops tried", and s2 itself answers it, whatever the
    -- set: to try it changes no mark
    pub answered_itself : (s2 j : ℕ) → label hs j ≡ 0 → to hs j ≡ s2 → answered hs u s2 j ≡ true
    unfolding answered
    answered_itself s2 j p q = answers_still s2 (label hs j) (to hs j) p (closing_same u (to hs j) s2 q)

    -- the hop at place j, if it leaves s1, is tried
    module _ (s1 s2 j : ℕ) where
      pub tried_own : from hs j ≡ s1 → tried hs (answers hs (closing u)) s1 s2 j ≡ answered hs u s2 j
      unfolding tried answered
      tried_own e = rw (eq-eqb (from hs j) s1 e)

      pub tried_other : (from hs j ≡ s1 → ⊥) → tried hs (answers hs (closing u)) s1 s2 j ≡ true
      unfolding tried
      tried_other n = rw (ne_eqb (from hs j) s1 n)

    -- X of a silent hop
    pub closes_says : (s1 s2 : ℕ) → closes hs u s1 s2 ≡ true → Closed hs (In u) s1 s2
    unfolding closes answered
    closes_says s1 s2 e a s3 h =
        let p = has_place hs s1 a s3 h in
        let y : answered hs u s2 p.at ≡ true =
        sym (tried_own s1 s2 p.at p.from_is) ∙ all_at (tried hs (answers hs (closing u)) s1 s2) (count hs) e p.within in
        answers_says s2 a s3 (rw (p.label_is, p.to_is) at y)

    pub closes_yes : (s1 s2 : ℕ) → Closed hs (In u) s1 s2 → closes hs u s1 s2 ≡ true
    unfolding closes answered
    closes_yes s1 s2 c = all_yes (tried hs (answers hs (closing u)) s1 s2) (count hs) (λ i l. go i l (eq_or_not (from hs i) s1)) where
      go : (i : ℕ) → i < count hs → (from hs i ≡ s1) ⊎ (from hs i ≡ s1 → ⊥) → tried hs (answers hs (closing u)) s1 s2 i ≡ true
      go i l (inl f) =
          tried_own s1 s2 i f ∙ answers_yes s2 (label hs i) (to hs i) (c (label hs i) (to hs i) (rw f at (has_at hs l)))
      go i l (inr n) = tried_other s1 s2 i n

    -- the test and the condition say the same
    pub closes_iff : (s1 s2 : ℕ) → (closes hs u s1 s2 ≡ true → Closed hs (In u) s1 s2) × (Closed hs (In u) s1 s2 → closes hs u s1 s2 ≡ true)
    closes_iff s1 s2 = (closes_says s1 s2, closes_yes s1 s2)

  -- the condition grows with the set
  pub answered_mono : {U W : ℕ → ℕ → Type 0} → ((s t : ℕ) → U s t → W s t) → (s2 a s3 : ℕ) → Answered hs U s2 a s3 → Answered hs W s2 a s3
  answered_mono f s2 a s3 (s4, x, inl e) = (s4, x, inl e)
  answered_mono f s2 a s3 (s4, x, inr m) = (s4, x, inr (f s3 s4 m))

  pub closed_mono : {U W : ℕ → ℕ → Type 0} → ((s t : ℕ) → U s t → W s t) → (s1 s2 : ℕ) → Closed hs U s1 s2 → Closed hs W s1 s2
  closed_mono f s1 s2 c a s3 h = answered_mono f s2 a s3 (c a s3 h)

  -- and so do the tests
  module _ (u v : Pairs) (f : (s t : ℕ) → In u s t → In v s t) where
    pub closing_mono : (s3 s4 : ℕ) → closing u s3 s4 ≡ true → closing v s3 s4 ≡ true
    closing_mono s3 s4 e = closing_yes v s3 s4 (⊎_elim (λ h. inl h) (λ h. inr (f s3 s4 h)) (closing_says u s3 s4 e))

    pub answers_mono : (s2 a s3 : ℕ) → answers hs (closing u) s2 a s3 ≡ true → answers hs (closing v) s2 a s3 ≡ true
    answers_mono s2 a s3 e = answers_yes v s2 a s3 (answered_mono f s2 a s3 (answers_says u s2 a s3 e))

    pub closes_mono : (s1 s2 : ℕ) → closes hs u s1 s2 ≡ true → closes hs v s1 s2 ≡ true
    closes_mono s1 s2 e = closes_yes v s1 s2 (closed_mono f s1 s2 (closes_says u s1 s2 e))
