-- Laws of the search in an ascending list: the places below `lower` hold exactly the earlier hops,
-- the search decides membership, and the places from `first_of` up to `past_of` hold exactly a
-- state's hops. Assumes nothing.
use Rattle.std.proofs.lemmas.Bool.{and_parts, cases_Bool, cases_lt, false_from_ne_true, not_from_false, not_from_true}
use Rattle.std.proofs.Common.{Result, Ok, Err}
use Prim.Native.Nat.{ℕ, ◌+◌, ◌<◌, ◌≤◌}
use mathlib.Core.Path.{◌≡◌, refl, sym, ap, ◌∙◌, subst}
use mathlib.Core.Bool.{Bool, true, false, not, ◌&&◌}
use mathlib.Core.List.{List}
use mathlib.Core.Logic.{◌⊎◌, inl, inr, ⊎_elim}
use native.Mathlib.Nat.{eq-or-lt_of_le, le_refl}
use native.Mathlib.Omega.{arith}
use borrow.Author.Tests.{ltb-true, ltb-false, lt-ltb, le-ltb, not-true, not-false}
use lib.Dec.{ltb, eqb}
use Rattle.base_bounded.specs.Quantifiers.{any, all}
use Rattle.graph.specs.Hops.{count, from, hop_of, hop_at, Alike, is, has}
use Rattle.graph.specs.Order.{before, Ascending}
use Rattle.graph.specs.Internal.Sum.{sum_of, Narrow}
use Rattle.graph.specs.Search.{lower, first_of, past_of}
use Rattle.graph.specs.Internal.Search.{Bracket, AbsentFrom, found, placed, is_at, found_place}
use Rattle.graph.specs.declared.Hop.{Hop}
use Rattle.base_bounded.proofs.Bools.{clash, same_test}
use Rattle.base_bounded.proofs.Quantifiers.{least_is, least_passes, least_before, least_within, any_found, any_no, all_yes}
use Rattle.graph.proofs.Places.{is_alike, alike_is, has_place}
use Rattle.graph.proofs.Sums.{sum_alike, sums_same}
use Rattle.graph.proofs.Ordered.{Below, before_below, below_before, before_trans, before_total, before_alike, alike_itself, alike_back, alike_then, alike_not_before, ascending_lt, ascending_place}

module _ (hs : List ℕ) (h : Hop) where
  pub lower_within : lower hs h ≤ count hs
  unfolding lower
  lower_within = least_within (λ (i : ℕ). not (before (hop_at hs i) h)) (count hs)

  -- what brackets a hop brackets the hops of its sum
  pub sum_bracket : {lo hi n : ℕ} → Bracket hs h lo hi → (n ≡ sum_of h) × Narrow h → (g : Hop) → (n ≡ sum_of g) × Narrow g → Bracket hs g lo hi
  sum_bracket {lo} {hi} b (p, v) g (q, w) = record {
    lo_le = b.lo_le;
    hi_le = b.hi_le;
    below = λ j l. like j ∙ b.below j l;
    above = λ j l k. like j ∙ b.above j l k;
  } where
    like : (j : ℕ) → before (hop_at hs j) g ≡ before (hop_at hs j) h
    like j = before_alike (alike_itself (hop_at hs j)) (sum_alike g h w v (sym q ∙ p))

  -- whether the sum of the hop at a place is that of h is whether h stands there
  pub sums_is : (i : ℕ) {a : Hop} {m n : ℕ} → a ≡ hop_at hs i → (m ≡ sum_of a) × Narrow a → (n ≡ sum_of h) × Narrow h → eqb m n ≡ is hs h.from h.label h.to i
  unfolding is
  sums_is i e p q = rw e at (sums_same p q)

  pub whole_absent : {past : ℕ} → past ≡ count hs → AbsentFrom hs h past
  unfolding AbsentFrom
  whole_absent e j l k = absurd (omega arith)

  pub lower_met : {lo hi : ℕ} → Bracket hs h lo hi → hi ≤ lo → lower hs h ≡ lo
  unfolding lower
  lower_met {lo} b met =
      least_is (λ (i : ℕ). not (before (hop_at hs i) h)) (count hs) lo (omega arith) (λ j l. not_from_true _ (b.below j l))
      (λ l. not_from_false _ (b.above lo met l))

  module _ (up : Ascending hs) where
    -- what comes after a hop that is not before h is not before h
    after : {i j : ℕ} → i ≤ j → j < count hs → before (hop_at hs i) h ≡ false → before (hop_at hs j) h ≡ false
    after {i} {j} l m e =
        ⊎_elim (λ q. subst (λ (n : ℕ). before (hop_at hs n) h ≡ false) q e)
        (λ k. false_from_ne_true (before (hop_at hs j) h) (λ d. clash (before_trans (hop_at hs i) (hop_at hs j) h (ascending_lt hs up j k m) d) e))
        (eq-or-lt_of_le l)

    module _ (lo hi m : ℕ) (b : Bracket hs h lo hi) (lo≤m : lo ≤ m) (m<hi : m < hi) where
      m<n : m < count hs
      m<n = omega arith

      earlier : (j : ℕ) → j < m + 1 → before (hop_at hs m) h ≡ true → before (hop_at hs j) h ≡ true
      earlier j l e = go (cases_Bool (before (hop_at hs j) h)) where
        go : (before (hop_at hs j) h ≡ true) ⊎ (before (hop_at hs j) h ≡ false) → before (hop_at hs j) h ≡ true
        go (inl d) = d
        go (inr d) = clash e (after (omega arith) m<n d)

      pub raise : before (hop_at hs m) h ≡ true → Bracket hs h (m + 1) hi
      raise e = record { lo_le = omega arith; hi_le = b.hi_le; below = λ j l. earlier j l e; above = b.above }

      pub cut : before (hop_at hs m) h ≡ false → Bracket hs h lo m
      cut e = record { lo_le = lo≤m; hi_le = omega arith; below = b.below; above = λ j l k. after l k e }

    -- the places below `lower` are those of the hops before h
    pub lower_law : {i : ℕ} → i < count hs → ltb i (lower hs h) ≡ before (hop_at hs i) h
    unfolding lower
    lower_law {i} l = ⊎_elim yes no (cases_lt i (lower hs h)) where
      test : ℕ → Bool
      test j = not (before (hop_at hs j) h)

      yes : i < lower hs h → ltb i (lower hs h) ≡ before (hop_at hs i) h
      yes k = lt-ltb _ _ k ∙ sym (not-false (before (hop_at hs i) h) (least_before test (count hs) k))

      no : lower hs h ≤ i → ltb i (lower hs h) ≡ before (hop_at hs i) h
      no k = le-ltb _ _ k ∙ sym (after k l (not-true (before (hop_at hs (lower hs h)) h) (least_passes test (count hs) (omega arith))))

    -- a hop that stands in the list stands where the search looks
    pub lower_at : {p : ℕ} → p < count hs → Alike (hop_at hs p) h → lower hs h ≡ p
    lower_at {p} l e = ⊎_elim over (λ k. omega (arith, not_over)) (cases_lt (lower hs h) p) where
      not_over : lower hs h ≤ p
      not_over = ltb-false _ _ (lower_law l ∙ alike_not_before e)

      over : lower hs h < p → lower hs h ≡ p
      over k =
          let m : lower hs h < count hs = omega arith in
          clash (before_alike (alike_itself (hop_at hs (lower hs h))) (alike_back e) ∙ ascending_lt hs up p k l) (sym (lower_law m) ∙ le-ltb _ _ (le_refl (lower hs h)))

    pub placed_at : {p : ℕ} → p < count hs → Alike (hop_at hs p) h → placed hs h ≡ Ok p
    unfolding placed
    placed_at {p} l e = rw (lower_at l e, lt-ltb _ _ l, alike_is hs h p e)

    -- a search that has come to the place of h goes on from there for a hop g that h is before
    pub bracket_on : (g : Hop) {lo hi r : ℕ} → Bracket hs h lo hi → Bracket hs g lo hi → before h g ≡ true → r ≡ lower hs h → Bracket hs g r hi
    bracket_on g {lo} {hi} {r} b c e q = record { lo_le = ⊎_elim over (λ l. l) (cases_lt hi r); hi_le = c.hi_le; below = low; above = c.above } where
      over : hi < r → r ≤ hi
      over l =
          let w : hi < count hs = omega (arith, lower_within) in
          clash (sym (lower_law w) ∙ lt-ltb _ _ (rw q at l)) (b.above hi (le_refl hi) w)

      low : (j : ℕ) → j < r → before (hop_at hs j) g ≡ true
      low j l =
          let w : j < count hs = omega (arith, lower_within) in
          before_trans (hop_at hs j) h g (sym (lower_law w) ∙ lt-ltb _ _ (rw q at l)) e

  -- the ways out of a search, where r is the place that it came to: it asked whether the hop stands
  -- there, or is past all that it can stand at
  module _ {r : ℕ} (e : r ≡ lower hs h) where
    pub find_found : {b : Bool} → r < count hs → b ≡ is hs h.from h.label h.to r → found b r ≡ placed hs h
    unfolding placed
    find_found l f = rw (← e, lt-ltb _ _ l, f)

    pub find_end : {past : ℕ} → past ≤ r → AbsentFrom hs h past → found false r ≡ placed hs h
    unfolding placed AbsentFrom
    find_end l f = ⊎_elim (λ m. find_found m (sym (f r l m))) (λ m. rw (← e, le-ltb _ _ m)) (cases_lt r (count hs))

  -- the place that the search comes to
  pub found_lower : found_place (placed hs h) ≡ lower hs h
  unfolding placed
  found_lower = go (ltb (lower hs h) (count hs) && is hs h.from h.label h.to (lower hs h)) where
    go : (x : Bool) → found_place (found x (lower hs h)) ≡ lower hs h
    go true = refl
    go false = refl

  -- what the search answers holds
  pub at_place : {p : ℕ} → placed hs h ≡ Ok p → (p < count hs) × (is hs h.from h.label h.to p ≡ true)
  unfolding placed
  at_place {p} e = go (ltb (lower hs h) (count hs) && is hs h.from h.label h.to (lower hs h)) refl e where
    go : (x : Bool) → (ltb (lower hs h) (count hs) && is hs h.from h.label h.to (lower hs h)) ≡ x →
        found x (lower hs h) ≡ Ok p → (p < count hs) × (is hs h.from h.label h.to p ≡ true)
    go true d f =
        let q : lower hs h ≡ p = cc in
        rw (← q) (ltb-true _ _ (and_parts (ltb (lower hs h) (count hs)) _ d).0, (and_parts (ltb (lower hs h) (count hs)) _ d).1)
    go false d f = let z : ◌≡◌ {A = ℕ} 0 1 = cc in absurd (omega arith)

  pub at_has : {p : ℕ} → placed hs h ≡ Ok p → has hs h.from h.label h.to ≡ true
  unfolding has
  at_has e = let (l, f) = at_place e in any_found (is hs h.from h.label h.to) (count hs) l f

  -- in an ascending list the search decides whether the graph has the hop
  pub placed_has : Ascending hs → is_at (placed hs h) ≡ has hs h.from h.label h.to
  placed_has up =
      same_test (is_at (placed hs h)) (has hs h.from h.label h.to) (told (placed hs h) refl)
      (λ e. let q = has_place hs h.from h.label h.to e in rw (placed_at up q.within (record { same_from = q.from_is; same_label = q.label_is; same_to = q.to_is }))) where
        told : (x : Result ℕ ℕ) → placed hs h ≡ x → is_at x ≡ true → has hs h.from h.label h.to ≡ true
        told (Ok p) d e = at_has d
        told (Err p) d e = clash e refl

  pub gap_has : {p : ℕ} → Ascending hs → placed hs h ≡ Err p → has hs h.from h.label h.to ≡ false
  gap_has up e = sym (placed_has up) ∙ ap is_at e

-- in an ascending list a hop stands at one place only
pub one_place : (hs : List ℕ) → Ascending hs → (s a t : ℕ) {i j : ℕ} → i < count hs → j < count hs → is hs s a t i ≡ true → is hs s a t j ≡ true → i ≡ j
one_place hs up s a t {i} {j} l m p q =
    ascending_place hs up l m (alike_then (is_alike hs (hop_of s a t) i p) (alike_back (is_alike hs (hop_of s a t) j q)))

-- a hop that does not come before another is not searched for before it
pub lower_rises : (hs : List ℕ) → Ascending hs → (a b : Hop) → before b a ≡ false → lower hs a ≤ lower hs b
lower_rises hs up a b e = ⊎_elim over (λ l. l) (cases_lt (lower hs b) (lower hs a)) where
  over : lower hs b < lower hs a → lower hs a ≤ lower hs b
  over l = go (cases_Bool (before b (hop_at hs (lower hs b)))) where
    within : lower hs b < count hs
    within = omega (arith, lower_within hs a)

    x : Hop
    x = hop_at hs (lower hs b)

    x_a : before x a ≡ true
    x_a = sym (lower_law hs a up within) ∙ lt-ltb _ _ l

    x_b : before x b ≡ false
    x_b = sym (lower_law hs b up within) ∙ le-ltb _ _ (le_refl (lower hs b))

    go : (before b x ≡ true) ⊎ (before b x ≡ false) → lower hs a ≤ lower hs b
    go (inl d) = clash (before_trans b x a d x_a) e
    go (inr d) = clash (sym (before_alike (before_total x b x_b d) (alike_itself a)) ∙ x_a) e

-- Hops sought one after the other, g k and then those of the places behind k, each before the next:
-- lo and hi bracket all that are still to be sought
abbrev pub Onward : List ℕ → (ℕ → Type 0) → (ℕ → Hop) → ℕ → ℕ → ℕ → Type 0
Onward hs Asked g lo hi k = (i : ℕ) → k ≤ i → Asked i → Bracket hs (g i) lo hi

pub onward : (hs : List ℕ) → Ascending hs → {Asked : ℕ → Type 0} {g : ℕ → Hop} {lo hi r k : ℕ} →
    ((i : ℕ) → k < i → Asked i → before (g k) (g i) ≡ true) → Onward hs Asked g lo hi k → Asked k → r ≡ lower hs (g k) → Onward hs Asked g r hi (k + 1)
onward hs up {g} {k} rises w a e i l b = bracket_on hs (g k) up (g i) (w k (le_refl k) a) (w i (omega arith) b) (rises i (omega arith) b) e

-- the hops of a state
module _ (hs : List ℕ) (up : Ascending hs) where
  pub first_law : (s : ℕ) {i : ℕ} → i < count hs → ltb i (first_of hs s) ≡ ltb (from hs i) s
  unfolding first_of
  first_law s {i} l = lower_law hs h up l ∙ same_test (before (hop_at hs i) h) (ltb (from hs i) s) (λ e. only (before_below (hop_at hs i) h e)) (λ e. below_before (hop_at hs i) h (inl (ltb-true _ _ e))) where
    h : Hop
    h = hop_of s 0 0

    only : Below (hop_at hs i) h → ltb (from hs i) s ≡ true
    only (inl k) = lt-ltb _ _ k
    only (inr (e, inl k)) = absurd (omega arith)
    only (inr (e, inr (f, k))) = absurd (omega arith)

  pub first_within : (s : ℕ) → first_of hs s ≤ count hs
  unfolding first_of
  first_within s = lower_within hs (hop_of s 0 0)

  -- a hop of s stands from first_of on and before past_of
  pub range_holds : (s : ℕ) {i : ℕ} → i < count hs → from hs i ≡ s → (first_of hs s ≤ i) × (i < past_of hs s)
  unfolding past_of
  range_holds s {i} l e =
      (ltb-false _ _ (first_law s l ∙ le-ltb (from hs i) s (omega arith)), ltb-true _ _ (first_law (s + 1) l ∙ lt-ltb (from hs i) (s + 1) (omega arith)))

  pub range_only : (s : ℕ) {i : ℕ} → i < count hs → first_of hs s ≤ i → i < past_of hs s → from hs i ≡ s
  unfolding past_of
  range_only s {i} l lo hi =
      let a : s ≤ from hs i = ltb-false _ _ (sym (first_law s l) ∙ le-ltb _ _ lo) in
      let b : from hs i < s + 1 = ltb-true _ _ (sym (first_law (s + 1) l) ∙ lt-ltb _ _ hi) in
      omega arith

  pub first_past : (s : ℕ) → first_of hs s ≤ past_of hs s
  unfolding first_of past_of
  first_past s = lower_rises hs up (hop_of s 0 0) (hop_of (s + 1) 0 0) (false_from_ne_true (before (hop_of (s + 1) 0 0) (hop_of s 0 0)) (λ e. go (before_below (hop_of (s + 1) 0 0) (hop_of s 0 0) e))) where
    go : Below (hop_of (s + 1) 0 0) (hop_of s 0 0) → ⊥
    go (inl l) = omega arith
    go (inr (e, l)) = omega arith

  pub past_within : (s : ℕ) → past_of hs s ≤ count hs
  unfolding past_of
  past_within s = first_within (s + 1)

-- a test over the list that only the places of a range can pass, or that all others pass
module _ (p : ℕ → Bool) (n lo hi : ℕ) where
  pub any_range : ((j : ℕ) → j < n → p j ≡ true → (lo ≤ j) × (j < hi)) → ((j : ℕ) → lo ≤ j → j < hi → p j ≡ false) → any n p ≡ false
  any_range out inn = any_no p n (λ j l. go j l (cases_Bool (p j))) where
    go : (j : ℕ) → j < n → (p j ≡ true) ⊎ (p j ≡ false) → p j ≡ false
    go j l (inl e) = let (a, b) = out j l e in inn j a b
    go j l (inr e) = e

  pub all_range : ((j : ℕ) → j < n → p j ≡ false → (lo ≤ j) × (j < hi)) → ((j : ℕ) → lo ≤ j → j < hi → p j ≡ true) → all n p ≡ true
  all_range out inn = all_yes p n (λ j l. go j l (cases_Bool (p j))) where
    go : (j : ℕ) → j < n → (p j ≡ true) ⊎ (p j ≡ false) → p j ≡ true
    go j l (inl e) = e
    go j l (inr e) = let (a, b) = out j l e in inn j a b
