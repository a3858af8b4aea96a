-- One state's hops in an ascending list walked, and two states' side by side: the table of first
-- places says where each state's hops stand, and their labels do not descend. By this the ways out
-- of X and Y. Assumes nothing.
use Rattle.std.proofs.Common.{Result}
use Prim.Native.Nat.{ℕ, ◌+◌, ◌<◌, ◌≤◌}
use mathlib.Core.Path.{◌≡◌, refl, sym, ◌∙◌}
use mathlib.Core.Bool.{Bool, true, false, ◌&&◌}
use mathlib.Core.List.{List}
use mathlib.Core.Logic.{inl, inr, ⊎_elim}
use native.Mathlib.Nat.{le_refl}
use native.Mathlib.Omega.{arith}
use borrow.Author.Tests.{eqb-true}
use borrow.Author.Count.{below_more}
use lib.Dec.{eqb}
use Rattle.graph.specs.Hops.{count, from, label, to, hop_of, hop_at, has}
use Rattle.graph.specs.Order.{before, Ascending}
use Rattle.graph.specs.Internal.Search.{placed, is_at, found_place}
use Rattle.graph.specs.Search.{first_of, past_of}
use Rattle.graph.specs.declared.Hop.{Hop}
use Rattle.base_bounded.proofs.Bools.{and_left, and_right, lt_or_le}
use Rattle.base_bounded.proofs.Quantifiers.{all_yes, all_fails}
use Rattle.graph.proofs.Ordered.{Below, before_below, below_before, ascending_lt}
use Rattle.graph.proofs.Lookup.{placed_has, found_lower, Onward, onward, first_within, range_holds, range_only}
use Rattle.base_fixpoint.specs.Pairs.{Pairs}
use Rattle.mark_confluence.specs.Rounds.{closing, hop_answers, answers, tried, closes}
use Rattle.mark_confluence.specs.Internal.Rounds.{answered}
use Rattle.graph_successors.proofs.Firsts.{first_below, first_next}
use Rattle.graph_successors.proofs.Rows.{row_bracket}
use Rattle.graph_successors.specs.Internal.Row.{Row}
use Rattle.mark_diamond_merge.proofs.Rows.{ascending_label}
use Rattle.mark_diamond.specs.Internal.Skipped.{Skipped}
use Rattle.mark_confluence.proofs.Closing.{answers_still, answers_else, answers_yes, answered_at, answered_itself, tried_own, tried_other}

module _ (hs : List ℕ) (up : Ascending hs) where
  -- the hops before the first of s1 are not tried
  pub tried_before : (u : Pairs) (s1 s2 : ℕ) {j : ℕ} → j ≡ first_of hs s1 → (k : ℕ) → k < j → tried hs (answers hs (closing u)) s1 s2 k ≡ true
  tried_before u s1 s2 e k l =
      tried_other hs u s1 s2 k (λ q. let h : from hs k < s1 = first_below hs up s1 (omega arith) in absurd (omega arith))

-- One state's hops walked: j goes over those of s1, up to `end`.
pub record Own (hs : List ℕ) (s1 end j : ℕ) : Type 0 where
  pub end_is : end ≡ first_of hs (s1 + 1)
  pub j_from : first_of hs s1 ≤ j
  pub j_in : j ≤ end

module _ (hs : List ℕ) (up : Ascending hs) (s1 end : ℕ) where
  pub own_start : {j : ℕ} → end ≡ first_of hs (s1 + 1) → j ≡ first_of hs s1 → Own hs s1 end j
  own_start p e = record { end_is = p; j_from = omega arith; j_in = omega (arith, first_next hs up s1) }

  module _ {j : ℕ} (o : Own hs s1 end j) where
    -- X: no hop from `end` on is tried
    pub tried_done : (u : Pairs) (s2 : ℕ) → end ≤ j → ((k : ℕ) → k < j → tried hs (answers hs (closing u)) s1 s2 k ≡ true) → true ≡ closes hs u s1 s2
    unfolding closes past_of
    tried_done u s2 l f =
        sym (all_yes (tried hs (answers hs (closing u)) s1 s2) (count hs) (λ k m. ⊎_elim (λ a. f k a) (λ a. tried_other hs u s1 s2 k (after k m a)) (lt_or_le k j))) where
          after : (k : ℕ) → k < count hs → j ≤ k → from hs k ≡ s1 → ⊥
          after k m a q = let (x, y) = range_holds hs up s1 m q in omega (arith, o.end_is)

    module _ (l : j < end) where
      -- the hop at j is one of s1
      pub own_in : j < count hs
      own_in = omega (arith, o.end_is, first_within hs up (s1 + 1))

      pub own_from : from hs j ≡ s1
      unfolding past_of
      own_from = range_only hs up s1 own_in o.j_from (omega (arith, o.end_is))

      pub own_next : Own hs s1 end (j + 1)
      own_next = record { end_is = o.end_is; j_from = omega (arith, o.j_from); j_in = omega arith }

      -- X: the one at j is tried, against a silent hop to t, which is s2
      module _ (u : Pairs) (s2 : ℕ) {t : ℕ} {v : Bool} (q : t ≡ s2) (e : v ≡ answered hs u t j) where
        pub tried_fails : v ≡ false → false ≡ closes hs u s1 s2
        unfolding closes
        tried_fails n =
            let d : answered hs u s2 j ≡ false = rw q at (sym e ∙ n) in
            sym (all_fails (tried hs (answers hs (closing u)) s1 s2) (count hs) own_in (tried_own hs u s1 s2 j own_from ∙ d))

        pub tried_next : v ≡ true → ((k : ℕ) → k < j → tried hs (answers hs (closing u)) s1 s2 k ≡ true) →
            (k : ℕ) → k < j + 1 → tried hs (answers hs (closing u)) s1 s2 k ≡ true
        tried_next n f =
            let d : answered hs u s2 j ≡ true = rw q at (sym e ∙ n) in
            below_more _ j f (tried_own hs u s1 s2 j own_from ∙ d)

-- Two states' hops walked side by side: j goes over those of s1, up to `end`, and `at` over those
-- of s2, up to `past`. The labels that `at` has passed are below every label that j has still to
-- come to.
pub record Walk (hs : List ℕ) (s1 s2 end past at j : ℕ) : Type 0 where
  pub own : Own hs s1 end j
  pub past_is : past ≡ first_of hs (s2 + 1)
  pub at_from : first_of hs s2 ≤ at
  pub at_in : at ≤ past
  pub behind : (k : ℕ) → first_of hs s2 ≤ k → k < at → (i : ℕ) → j ≤ i → i < end → label hs k < label hs i

module _ (hs : List ℕ) (up : Ascending hs) (s1 s2 end past : ℕ) where
  pub walk_start : {at j : ℕ} → end ≡ first_of hs (s1 + 1) → past ≡ first_of hs (s2 + 1) → at ≡ first_of hs s2 → j ≡ first_of hs s1 →
      Walk hs s1 s2 end past at j
  walk_start p q r e =
      record {
        own = own_start hs up s1 end p e;
        past_is = q;
        at_from = omega arith;
        at_in = omega (arith, first_next hs up s2);
        behind = λ k l m i n o. absurd (omega arith);
      }

  module _ {at j : ℕ} (w : Walk hs s1 s2 end past at j) (l : j < end) where
    pub walk_past : past ≤ count hs
    walk_past = omega (arith, w.past_is, first_within hs up (s2 + 1))

    module _ {r : ℕ} (sk : Skipped hs at past (label hs j) r) where
      -- the next label of s1 is at least that of j
      later : (i : ℕ) → j ≤ i → i < end → label hs j ≤ label hs i
      unfolding past_of
      later i m n =
          let o : i < count hs = omega (arith, w.own.end_is, first_within hs up (s1 + 1)) in
          ascending_label hs up m o (own_from hs up s1 end w.own l ∙ sym (range_only hs up s1 o (omega (arith, w.own.j_from)) (omega (arith, w.own.end_is))))

      pub walk_skip : Walk hs s1 s2 end past r j
      walk_skip =
          record {
            own = w.own;
            past_is = w.past_is;
            at_from = omega (arith, w.at_from, sk.after);
            at_in = sk.before;
            behind = λ k a b i m n. ⊎_elim (λ c. w.behind k a c i m n) (λ c. omega (arith, sk.passed k c b, later i m n)) (lt_or_le k at);
          }

      -- the hops of s2 from r on are those of j's label or above
      pub walk_row : Row hs s2 (label hs j) r past
      unfolding past_of
      walk_row = record { within = walk_past; own = own; low = low; rest = rest } where
        own : (k : ℕ) → r ≤ k → k < past → from hs k ≡ s2
        own k a b =
            range_only hs up s2 (omega (arith, walk_past)) (omega (arith, w.at_from, sk.after)) (omega (arith, w.past_is))

        low : (k : ℕ) → r ≤ k → k < past → label hs j ≤ label hs k
        low k a b =
            let m : r < past = omega arith in
            let h : label hs r ≤ label hs k = ascending_label hs up a (omega (arith, walk_past)) (own r (le_refl r) m ∙ sym (own k a b)) in
            omega (arith, sk.stopped m)

        rest : (k : ℕ) → k < count hs → from hs k ≡ s2 → label hs j ≤ label hs k → (r ≤ k) × (k < past)
        rest k o e m =
            let (a, b) = range_holds hs up s2 o e in
            (⊎_elim (λ c. absurd (omega (arith, walk_skip.behind k a c j (le_refl j) l))) (λ c. c) (lt_or_le k r), omega (arith, w.past_is))

    -- the hop at j passed
    pub walk_pass : Walk hs s1 s2 end past at (j + 1)
    walk_pass =
        record {
          own = own_next hs up s1 end w.own l;
          past_is = w.past_is;
          at_from = w.at_from;
          at_in = w.at_in;
          behind = λ k a b i m n. w.behind k a b i (omega arith) n;
        }

-- The hop of s2 like the one at place i: with its label and its end. `same` and `past` bracket it
-- for each hop of s1 from j on, since these ascend.
abbrev pub like_at : List ℕ → ℕ → ℕ → Hop
like_at hs s2 i = hop_of s2 (label hs i) (to hs i)

abbrev pub Beside : List ℕ → ℕ → ℕ → ℕ → ℕ → ℕ → Type 0
Beside hs s2 end past same j = Onward hs (λ (i : ℕ). i < end) (like_at hs s2) same past j

module _ (hs : List ℕ) (up : Ascending hs) (s1 s2 end past : ℕ) where
  pub beside_start : {same j : ℕ} → same ≡ first_of hs s2 → past ≡ first_of hs (s2 + 1) → Beside hs s2 end past same j
  beside_start p q i l m = row_bracket hs up (like_at hs s2 i) p q

  module _ {j : ℕ} (o : Own hs s1 end j) (l : j < end) where
    -- the like hop of a later hop of s1 comes later
    likes_rise : (i : ℕ) → j < i → i < end → before (like_at hs s2 j) (like_at hs s2 i) ≡ true
    likes_rise i m n = go (before_below (hop_at hs j) (hop_at hs i) (ascending_lt hs up i m (own_in hs up s1 end later n))) where
      later : Own hs s1 end i
      later = record { end_is = o.end_is; j_from = omega (arith, o.j_from); j_in = omega arith }

      go : Below (hop_at hs j) (hop_at hs i) → before (like_at hs s2 j) (like_at hs s2 i) ≡ true
      go (inl k) = absurd (omega (arith, own_from hs up s1 end o l, own_from hs up s1 end later n))
      go (inr (q, k)) = below_before (like_at hs s2 j) (like_at hs s2 i) (inr (refl, k))

    pub beside_next : {same r : ℕ} {h : Hop} {f : Result ℕ ℕ} → Beside hs s2 end past same j → h ≡ like_at hs s2 j → f ≡ placed hs h → r ≡ found_place f →
        Beside hs s2 end past r (j + 1)
    beside_next w q e d = onward hs up likes_rise w l (d ∙ rw (e, q) (found_lower hs (like_at hs s2 j)))

-- the search decides whether s2 has it
pub like_has : (hs : List ℕ) → Ascending hs → (s2 j : ℕ) {h : Hop} {f : Result ℕ ℕ} {v : Bool} → h ≡ like_at hs s2 j → f ≡ placed hs h → v ≡ is_at f →
    v ≡ has hs s2 (label hs j) (to hs j)
like_has hs up s2 j q e d = d ∙ rw (e, q) (placed_has hs (like_at hs s2 j) up)

-- Y of the hop at place j, labelled a to s3: s2 has the like hop, or itself answers, or another hop
-- of s2 must
module _ (hs : List ℕ) (u : Pairs) (s2 j : ℕ) {a s3 : ℕ} (p : a ≡ label hs j) (q : s3 ≡ to hs j) {v : Bool} where
  pub answered_still : a ≡ 0 → v ≡ closing u s3 s2 → v ≡ true → true ≡ answered hs u s2 j
  answered_still z e d = sym (answers_still hs u s2 a s3 z (sym e ∙ d)) ∙ answered_at hs u s2 j p q

  pub answered_else : v ≡ hop_answers hs (closing u) s2 a s3 → (a ≡ 0 → closing u s3 s2 ≡ false) → v ≡ answered hs u s2 j
  answered_else e f = e ∙ answers_else hs u s2 a s3 f ∙ answered_at hs u s2 j p q

-- a silent hop to s2 is answered by s2 itself
pub answered_stays : (hs : List ℕ) (u : Pairs) (s2 j : ℕ) {v : Bool} → v ≡ (eqb (label hs j) 0 && eqb (to hs j) s2) → v ≡ true → true ≡ answered hs u s2 j
answered_stays hs u s2 j e d =
    let b : (eqb (label hs j) 0 && eqb (to hs j) s2) ≡ true = sym e ∙ d in
    sym (answered_itself hs u s2 j (eqb-true _ _ (and_left (eqb (label hs j) 0) _ b)) (eqb-true _ _ (and_right (eqb (label hs j) 0) _ b)))

-- s2 has the like hop: s4 is s3
pub answered_alike : (hs : List ℕ) (u : Pairs) (s2 j : ℕ) {alike : Bool} → alike ≡ has hs s2 (label hs j) (to hs j) → alike ≡ true → true ≡ answered hs u s2 j
answered_alike hs u s2 j e d = sym (answers_yes hs u s2 (label hs j) (to hs j) (to hs j, inl (sym e ∙ d), inl refl)) ∙ answered_at hs u s2 j refl refl
