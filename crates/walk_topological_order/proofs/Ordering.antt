-- Laws of the order while it is made: no state placed, one state more, a pass that places none, and
-- the whole order. Assumes nothing.
use Prim.Native.Nat.{ℕ, zero, suc, ◌+◌, ◌<◌, ◌≤◌}
use mathlib.Core.Path.{◌≡◌, refl, sym, ap, ◌∙◌}
use mathlib.Core.Bool.{Bool, true, false, not, ◌||◌}
use mathlib.Core.List.{List}
use mathlib.Core.Logic.{◌⊎◌, inl, inr, ⊎_elim}
use native.Mathlib.Nat.{not-suc-le-zero}
use native.Mathlib.Omega.{arith}
use borrow.Author.Tests.{eq-eqb, eqb-true}
use lib.ListN.{length, get_or, set, length-set, replicate, length-replicate, get_or-replicate}
use lib.Dec.{eqb}
use Rattle.base_bounded.specs.Quantifiers.{tally}
use Rattle.base_bounded.proofs.Bools.{clash, decided, lt_or_le, and_yes, and_left, and_right, or_left, or_right, not_no, no_test}
use Rattle.base_bounded.proofs.Quantifiers.{all_yes, tally_within, tally_zero, tally_less}
use Rattle.base_bounded.proofs.Tallies.{tally_full, tally_one, tally_both}
use Rattle.graph.specs.Hops.{count, from, label, to, labelled}
use Rattle.graph.specs.declared.Shape.{Shape}
use Rattle.graph.proofs.Places.{labelled_yes, labelled_parts}
use Rattle.graph_check.specs.Check.{InRange}
use Rattle.walk_silent.specs.Silent.{ring_answer}
use Rattle.walk_silent.proofs.Hops.{silent_here}
use Rattle.walk_silent.proofs.Rings.{rank, rank_falls_accepted}
use Rattle.walk_reach.specs.Internal.Frontier.{visited}
use Rattle.walk_reach.proofs.Frontier.{visited_set, visited_set_same, visited_set_back, visited_set_other}
use Rattle.walk_acyclic.specs.Internal.Ranks.{ends_visited}
use Rattle.walk_acyclic.proofs.Ranks.{ends_at}
use Rattle.walk_topological_order.specs.Internal.TopologicalOrder.{TopologicalOrder}
use Rattle.walk_topological_order.specs.Internal.Ordering.{RowAppended, is_ordered, OrderedSoFar, Stuck, PlacedOrStuck, more, none, OnlyState}
use Rattle.walk_topological_order.specs.declared.Progress.{Progress}

-- a silent hop of a placed state
module _ (hs : List ℕ) (placed : List Bool) (i : ℕ) where
  pub ordered_yes : label hs i ≡ 0 → visited placed (from hs i) ≡ true → is_ordered hs placed i ≡ true
  unfolding is_ordered
  ordered_yes q e = and_yes (eq-eqb (label hs i) 0 q) e

  pub ordered_silent : is_ordered hs placed i ≡ true → label hs i ≡ 0
  unfolding is_ordered
  ordered_silent e = eqb-true (label hs i) 0 (and_left (eqb (label hs i) 0) (visited placed (from hs i)) e)

  pub ordered_from : is_ordered hs placed i ≡ true → visited placed (from hs i) ≡ true
  unfolding is_ordered
  ordered_from e = and_right (eqb (label hs i) 0) (visited placed (from hs i)) e

-- no state is placed
pub ordered_none : {sh : Shape} {hs sorted : List ℕ} → InRange sh hs → count hs ≤ length sorted → (m : ℕ) → sh.states ≤ m →
    OrderedSoFar hs sh.states sorted (record { placed = replicate m false; states = 0; places = 0 })
unfolding visited
ordered_none {sh} {hs} {sorted} ranged capacity m w = record {
  flags = rw (length-replicate {A = Bool} m false) w;
  capacity = capacity;
  counted = sym (tally_zero (visited (replicate m false)) sh.states off);
  few = omega arith;
  ends = λ i l e. clash (ordered_from hs (replicate m false) i e) (off (from hs i) (ranged.from_in i l));
  own = λ k l. absurd (not-suc-le-zero l);
  every = λ i l e. clash (ordered_from hs (replicate m false) i e) (off (from hs i) (ranged.from_in i l));
  order = λ j k l. absurd (not-suc-le-zero l);
} where
  off : (j : ℕ) → j < sh.states → visited (replicate m false) j ≡ false
  off j l = get_or-replicate m j false false (omega arith)

pub ordered_states : {hs : List ℕ} {n : ℕ} {sorted : List ℕ} {p : Progress} → OrderedSoFar hs n sorted p → p.states ≤ n
ordered_states {n = n} {p = p} x = omega (arith, x.counted, tally_within (visited p.placed) n)

-- one more state is placed, all of whose silent hops lead to placed states
module _ {hs : List ℕ} {n : ℕ} {sorted : List ℕ} {at : Progress} (x : OrderedSoFar hs n sorted at) (v : ℕ) (l : v < n) (off : visited at.placed v ≡ false) where
  abbrev placed : List Bool
  placed = at.placed

  abbrev after : List Bool
  after = set placed v true

  in_placed : v < length placed
  in_placed = omega (arith, x.flags)

  still : (i : ℕ) → is_ordered hs placed i ≡ true → is_ordered hs after i ≡ true
  still i e = ordered_yes hs after i (ordered_silent hs placed i e) (visited_set placed v (from hs i) in_placed (ordered_from hs placed i e))

  new : (i : ℕ) → labelled hs v 0 i ≡ true → is_ordered hs after i ≡ true
  new i d = let (f, a) = labelled_parts hs v 0 i d in ordered_yes hs after i a (rw f (visited_set_same placed v in_placed))

  back : (i : ℕ) → is_ordered hs after i ≡ true → (is_ordered hs placed i ≡ true) ⊎ (labelled hs v 0 i ≡ true)
  back i e =
      let q = ordered_silent hs after i e in
      ⊎_elim (λ o. inl (ordered_yes hs placed i q o)) (λ f. inr (labelled_yes hs v 0 i f q)) (visited_set_back placed v (from hs i) (ordered_from hs after i e))

  apart : (i : ℕ) → is_ordered hs placed i ≡ true → labelled hs v 0 i ≡ false
  apart i e = no_test (labelled hs v 0 i) (λ d. clash (rw (labelled_parts hs v 0 i d).0 at (ordered_from hs placed i e)) off)

  grown : tally (count hs) (is_ordered hs placed) + tally (count hs) (labelled hs v 0) ≤ tally (count hs) (is_ordered hs after)
  grown = tally_both (is_ordered hs placed) (labelled hs v 0) (is_ordered hs after) (count hs) (λ i k e. (apart i e, still i e)) (λ i k d. new i d)

  -- its silent hops fit into the order
  pub row_fits : at.places + tally (count hs) (labelled hs v 0) ≤ count hs
  row_fits = omega (arith, x.few, grown, tally_within (is_ordered hs after) (count hs))

  module _ (e : ends_visited hs placed v ≡ true) {sorted' : List ℕ} {r : ℕ} (p : RowAppended hs v sorted at.places sorted' r) where
    -- all hops in the order lead to states that were placed before
    leads_back : (j : ℕ) → j < r → visited placed (to hs (get_or sorted' j 0)) ≡ true
    leads_back j m = go (lt_or_le j at.places) where
      go : (j < at.places) ⊎ (at.places ≤ j) → visited placed (to hs (get_or sorted' j 0)) ≡ true
      go (inl a) = let (w, o) = x.own j a in rw (p.kept j a) (x.ends (get_or sorted j 0) w o)
      go (inr a) = let (w, d) = p.own j a m in ends_at hs placed v e (to hs (get_or sorted' j 0)) (silent_here hs v (get_or sorted' j 0) w d)

    ordered : (j k : ℕ) → j < r → k < r → to hs (get_or sorted' j 0) ≡ from hs (get_or sorted' k 0) → k < j
    ordered j k a b q = go (lt_or_le j at.places) (lt_or_le k at.places) where
      go : (j < at.places) ⊎ (at.places ≤ j) → (k < at.places) ⊎ (at.places ≤ k) → k < j
      go (inl c) (inl d) = x.order j k c d (ap (to hs) (sym (p.kept j c)) ∙ (q ∙ ap (from hs) (p.kept k d)))
      go (inr c) (inl d) = omega arith
      go c (inr d) = clash (ap (visited placed) (sym (q ∙ (labelled_parts hs v 0 _ (p.own k d b).1).0)) ∙ leads_back j a) off

    pub ordered_one : OrderedSoFar hs n sorted' (record { placed = after; states = at.states + 1; places = r })
    ordered_one = record {
      flags = simp length-set x.flags;
      capacity = rw p.long x.capacity;
      counted = ap (λ (k : ℕ). k + 1) x.counted ∙ tally_one (visited placed) (visited after) n l off (visited_set_same placed v in_placed) (visited_set_other placed v);
      few = omega (arith, x.few, p.few, grown);
      ends = λ i k d. visited_set placed v (to hs i) in_placed (⊎_elim (λ o. x.ends i k o) (λ o. ends_at hs placed v e (to hs i) (silent_here hs v i k o)) (back i d));
      own = λ k m. own k m (lt_or_le k at.places);
      every = λ i k d. every i k (back i d);
      order = ordered;
    } where
      own : (k : ℕ) → k < r → (k < at.places) ⊎ (at.places ≤ k) → (get_or sorted' k 0 < count hs) × (is_ordered hs after (get_or sorted' k 0) ≡ true)
      own k m (inl a) = let (w, o) = x.own k a in rw (p.kept k a) (w, still (get_or sorted k 0) o)
      own k m (inr a) = let (w, d) = p.own k a m in (w, new (get_or sorted' k 0) d)

      every : (i : ℕ) → i < count hs → (is_ordered hs placed i ≡ true) ⊎ (labelled hs v 0 i ≡ true) → (k : ℕ) × (k < r) × (get_or sorted' k 0 ≡ i)
      every i m (inl o) = let (k, a, q) = x.every i m o in (k, omega (arith, p.later), p.kept k a ∙ q)
      every i m (inr d) = let (k, a, b, q) = p.every i m d in (k, b, q)

-- without rings all states are placed where each is placed or cannot be: by the rank
module _ {sh : Shape} {hs : List ℕ} (ranged : InRange sh hs) (free : (ring_answer sh hs).number ≡ 0) (placed : List Bool) (stuck : (u : ℕ) → u < sh.states → Stuck hs placed u) where
  low : (b u : ℕ) → u < sh.states → rank sh hs u < b → visited placed u ≡ true
  unfolding ends_visited
  low zero u l h = absurd (not-suc-le-zero h)
  low (suc b) u l h = stuck u l (all_yes _ (count hs) (λ i m. go i m (decided (labelled hs u 0 i)) (λ t k g. low b t k g))) where
    go : (i : ℕ) → i < count hs → (labelled hs u 0 i ≡ true) ⊎ (labelled hs u 0 i ≡ false) → ((t : ℕ) → t < sh.states → rank sh hs t < b → visited placed t ≡ true) →
        (not (labelled hs u 0 i) || visited placed (to hs i)) ≡ true
    go i m (inl d) ih =
        or_right (not (labelled hs u 0 i))
        (ih (to hs i) (ranged.to_in i m) (omega (arith, rank_falls_accepted ranged free u (to hs i) (silent_here hs u i m d))))
    go i m (inr d) ih = or_left (visited placed (to hs i)) (not_no d)

  pub stuck_all : (u : ℕ) → u < sh.states → visited placed u ≡ true
  stuck_all u l = low (suc (rank sh hs u)) u l (omega arith)

-- v was tried, and is placed already
pub placed_or_stuck_placed : (hs : List ℕ) (p : Progress) (v : ℕ) → visited p.placed v ≡ true → PlacedOrStuck hs (OnlyState v) p p
placed_or_stuck_placed hs p v e = none refl refl (λ u q d. rw q e)

-- a pass downward has come to v, and a pass upward: the states that it has tried
abbrev pub From : ℕ → ℕ → ℕ → Type 0
From n v u = (v ≤ u) × (u < n)

abbrev pub Below : ℕ → ℕ → Type 0
Below v u = u < v

-- a whole pass
pub pass_more : {sh : Shape} {hs sorted : List ℕ} {p p' : Progress} → InRange sh hs → (ring_answer sh hs).number ≡ 0 → OrderedSoFar hs sh.states sorted p →
    {W : ℕ → Type 0} → PlacedOrStuck hs W p p' → ((u : ℕ) → u < sh.states → W u) → p.states < sh.states → p.states < p'.states
pass_more ranged free x (more h) w l = h
pass_more {sh} {hs} {p = p} ranged free x (none q c f) w l =
    absurd (omega (arith, x.counted, tally_full (visited p.placed) sh.states (stuck_all ranged free p.placed (λ u m. f u (w u m)))))

-- all states are placed: the order is whole
pub ordered_whole : {sh : Shape} {hs sorted : List ℕ} {p : Progress} → InRange sh hs → OrderedSoFar hs sh.states sorted p → sh.states ≤ p.states →
    TopologicalOrder hs sorted p.places
ordered_whole {sh} {hs} {sorted} {p} ranged x w = record {
  capacity = omega (arith, x.few, tally_within (is_ordered hs p.placed) (count hs), x.capacity);
  within = λ k l. (x.own k l).0;
  silent = λ k l. ordered_silent hs p.placed (get_or sorted k 0) (x.own k l).1;
  every = λ i l q. x.every i l (ordered_yes hs p.placed i q (all_placed (from hs i) (ranged.from_in i l)));
  order = x.order;
} where
  all_placed : (t : ℕ) → t < sh.states → visited p.placed t ≡ true
  all_placed t l = go (decided (visited p.placed t)) where
    go : (visited p.placed t ≡ true) ⊎ (visited p.placed t ≡ false) → visited p.placed t ≡ true
    go (inl e) = e
    go (inr e) =
        absurd (omega (arith, x.counted, tally_less (visited p.placed) (λ (j : ℕ). true) sh.states (λ j k d. refl) l e refl, tally_within (λ (j : ℕ). true) sh.states))
