-- What the answer of `check` means: 0 exactly for the graphs that document 01 admits, and the
-- places of rows 3 and 4 are the first such hops. Assumes nothing.
use Prim.Native.Nat.{ℕ, zero, suc, ◌+◌, ◌-◌, ◌%◌, ◌<◌, ◌≤◌}
use mathlib.Core.Path.{◌≡◌, refl, sym, ap, subst}
use mathlib.Core.Bool.{Bool, true, false, cond, not, ◌&&◌}
use mathlib.Core.List.{List}
use mathlib.Core.Logic.{◌⊎◌, inl, inr, ◌↔◌}
use native.Mathlib.Nat.{le_refl}
use native.Mathlib.Numerals.{add-one}
use native.Mathlib.Omega.{arith}
use borrow.Author.Tests.{ltb-true, ltb-false, leb-true, leb-false, eqb-true, lt-ltb, le-ltb, le-leb, lt-leb, eq-eqb, not-true, not-false}
use lib.ListN.{length}
use lib.Dec.{eqb, leb, ltb}
use Rattle.std.proofs.lemmas.Bool.{and_parts, not_from_true, or_cases, or_right}
use Rattle.base_bounded.specs.Quantifiers.{least}
use Rattle.base_bounded.specs.Internal.Quantifiers.{FirstFailing}
use Rattle.graph.specs.Hops.{numbers_a_hop, count, from, label, hop_at}
use Rattle.graph.specs.Order.{before, Ascending}
use Rattle.graph.specs.Answers.{most_states, most_labels, most_hops, accepted, refused}
use Rattle.graph_check.specs.Check.{counts_fit, inside, first_outside, ascends_at, first_not_ascending, check_of, InRange, Admitted}
use Rattle.graph.specs.declared.Shape.{Shape}
use Rattle.graph.specs.declared.Answer.{Answer}
use Rattle.base_bounded.proofs.Quantifiers.{least_no, least_passes, least_before}

module _ (sh : Shape) (hs : List ℕ) where
  -- row 1, where it speaks, is the answer
  pub check_counts : {fit : Bool} → fit ≡ counts_fit sh hs → not fit ≡ true → refused 1 0 ≡ check_of sh hs
  unfolding check_of
  check_counts f e = rw (← f, e)

  -- no row speaks
  pub check_accepts : {fit : Bool} → fit ≡ counts_fit sh hs → not fit ≡ false → sh.initial < sh.states → {o : ℕ} → o ≡ first_outside sh hs → count hs ≤ o →
      {w : ℕ} → w ≡ first_not_ascending hs → count hs ≤ w → accepted ≡ check_of sh hs
  unfolding check_of
  check_accepts f e l p m q k = rw (← f, e, lt-leb _ _ l, ← p, le-ltb _ _ m, ← q, le-ltb _ _ k)

-- the least number that fails a test, as the code looks for it
first_failing : (n : ℕ) (p : ℕ → Bool) → least n (λ (i : ℕ). not (p i)) < n → FirstFailing n p (least n (λ (i : ℕ). not (p i)))
first_failing n p l = record {
  within = l;
  fails = not-true (p _) (least_passes (λ (i : ℕ). not (p i)) n l);
  passed = λ j k. not-false (p j) (least_before (λ (i : ℕ). not (p i)) n k);
}

none_failing : (n : ℕ) (p : ℕ → Bool) → n ≤ least n (λ (i : ℕ). not (p i)) → (j : ℕ) → j < n → p j ≡ true
none_failing n p l j k = not-false (p j) (least_before (λ (i : ℕ). not (p i)) n (omega arith))

all_passing : (n : ℕ) (p : ℕ → Bool) → ((j : ℕ) → j < n → p j ≡ true) → least n (λ (i : ℕ). not (p i)) ≡ n
all_passing n p f = least_no (λ (i : ℕ). not (p i)) n (λ j l. not_from_true _ (f j l))

module _ (sh : Shape) (hs : List ℕ) where
  -- row 3 passed by each hop is "in range"
  inside_range : ((i : ℕ) → i < count hs → inside sh hs i ≡ true) → InRange sh hs
  unfolding inside
  inside_range f = record {
    from_in = λ i l. ltb-true _ _ (and_parts (ltb (from hs i) sh.states) _ (and_parts (ltb (from hs i) sh.states && ltb (label hs i) sh.labels) _ (f i l)).0).0;
    label_in = λ i l. ltb-true _ _ (and_parts (ltb (from hs i) sh.states) _ (and_parts (ltb (from hs i) sh.states && ltb (label hs i) sh.labels) _ (f i l)).0).1;
    to_in = λ i l. ltb-true _ _ (and_parts (ltb (from hs i) sh.states && ltb (label hs i) sh.labels) _ (f i l)).1;
  }

  range_inside : InRange sh hs → (i : ℕ) → i < count hs → inside sh hs i ≡ true
  unfolding inside
  range_inside r i l = rw (lt-ltb _ _ (r.from_in i l), lt-ltb _ _ (r.label_in i l), lt-ltb _ _ (r.to_in i l))

  -- row 4 passed by each hop is "strictly ascending"
  rising_ascends : ((i : ℕ) → i < count hs → ascends_at hs i ≡ true) → Ascending hs
  unfolding ascends_at Ascending
  rising_ascends f i l = go (or_cases (eqb (i + 1) 0) _ (f (i + 1) l)) where
    back : i + 1 - 1 ≡ i
    back = omega arith

    go : (eqb (i + 1) 0 ≡ true) ⊎ (before (hop_at hs (i + 1 - 1)) (hop_at hs (i + 1)) ≡ true) → before (hop_at hs i) (hop_at hs (i + 1)) ≡ true
    go (inl e) = absurd (omega (arith, eqb-true (i + 1) 0 e))
    go (inr e) = subst (λ (n : ℕ). before (hop_at hs n) (hop_at hs (i + 1)) ≡ true) back e

  ascends_rising : Ascending hs → (i : ℕ) → i < count hs → ascends_at hs i ≡ true
  unfolding ascends_at Ascending
  ascends_rising up zero l = refl
  ascends_rising up (suc i) l = or_right (eqb (suc i) 0) _ (subst (λ (n : ℕ). before (hop_at hs n) (hop_at hs (suc i)) ≡ true) back here) where
    back : i ≡ suc i - 1
    back = omega arith

    here : before (hop_at hs i) (hop_at hs (suc i)) ≡ true
    here = subst (λ (n : ℕ). before (hop_at hs i) (hop_at hs n) ≡ true) (add-one i) (up i (omega arith))

  -- row 1 passed is the six limits
  pub record Limits : Type 0 where
    pub states_some : 1 ≤ sh.states
    pub states_most : sh.states ≤ most_states
    pub labels_some : 1 ≤ sh.labels
    pub labels_most : sh.labels ≤ most_labels
    pub hops_most : count hs ≤ most_hops
    pub whole_hops : length hs % numbers_a_hop ≡ 0

  counts_limits : counts_fit sh hs ≡ true → Limits
  unfolding counts_fit
  counts_limits e =
      let p5 = (and_parts (leb 1 sh.states && leb sh.states most_states && leb 1 sh.labels && leb sh.labels most_labels && leb (count hs) most_hops) _ e).0 in
      let p4 = (and_parts (leb 1 sh.states && leb sh.states most_states && leb 1 sh.labels && leb sh.labels most_labels) _ p5).0 in
      let p3 = (and_parts (leb 1 sh.states && leb sh.states most_states && leb 1 sh.labels) _ p4).0 in
      let p2 = (and_parts (leb 1 sh.states && leb sh.states most_states) _ p3).0 in
      record {
        states_some = leb-true _ _ (and_parts (leb 1 sh.states) _ p2).0;
        states_most = leb-true _ _ (and_parts (leb 1 sh.states) _ p2).1;
        labels_some = leb-true _ _ (and_parts (leb 1 sh.states && leb sh.states most_states) _ p3).1;
        labels_most = leb-true _ _ (and_parts (leb 1 sh.states && leb sh.states most_states && leb 1 sh.labels) _ p4).1;
        hops_most = leb-true _ _ (and_parts (leb 1 sh.states && leb sh.states most_states && leb 1 sh.labels && leb sh.labels most_labels) _ p5).1;
        whole_hops = eqb-true _ _ (and_parts (leb 1 sh.states && leb sh.states most_states && leb 1 sh.labels && leb sh.labels most_labels && leb (count hs) most_hops) _ e).1;
      }

  limits_counts : Limits → counts_fit sh hs ≡ true
  unfolding counts_fit
  limits_counts p =
      rw (le-leb _ _ p.states_some, le-leb _ _ p.states_most, le-leb _ _ p.labels_some, le-leb _ _ p.labels_most, le-leb _ _ p.hops_most, eq-eqb _ _ p.whole_hops)

  -- what each answer says
  pub record Means (a : Answer) : Type 0 where
    pub zero_admits : a.number ≡ 0 → Admitted sh hs
    pub three_first : a.number ≡ 3 → FirstFailing (count hs) (inside sh hs) a.place
    pub four_first : a.number ≡ 4 → FirstFailing (count hs) (ascends_at hs) a.place

  answered : (a b c d : Bool) → counts_fit sh hs ≡ a → leb sh.states sh.initial ≡ b → ltb (first_outside sh hs) (count hs) ≡ c →
      ltb (first_not_ascending hs) (count hs) ≡ d →
      Means (cond (not a) (refused 1 0) (cond b (refused 2 0) (cond c (refused 3 (first_outside sh hs)) (cond d (refused 4 (first_not_ascending hs)) accepted))))
  unfolding first_outside first_not_ascending
  answered false b c d p q r t = record { zero_admits = λ e. absurd (omega arith); three_first = λ e. absurd (omega arith); four_first = λ e. absurd (omega arith) }
  answered true true c d p q r t = record { zero_admits = λ e. absurd (omega arith); three_first = λ e. absurd (omega arith); four_first = λ e. absurd (omega arith) }
  answered true false true d p q r t = record {
    zero_admits = λ e. absurd (omega arith);
    three_first = λ e. first_failing (count hs) (inside sh hs) (ltb-true _ _ r);
    four_first = λ e. absurd (omega arith);
  }
  answered true false false true p q r t = record {
    zero_admits = λ e. absurd (omega arith);
    three_first = λ e. absurd (omega arith);
    four_first = λ e. first_failing (count hs) (ascends_at hs) (ltb-true _ _ t);
  }
  answered true false false false p q r t = record {
    zero_admits = λ e. (let l = counts_limits p in record {
      states_some = l.states_some;
      states_most = l.states_most;
      labels_some = l.labels_some;
      labels_most = l.labels_most;
      hops_most = l.hops_most;
      whole_hops = l.whole_hops;
      initial_in = leb-false _ _ q;
      range = inside_range (none_failing (count hs) (inside sh hs) (ltb-false _ _ r));
      ascending = rising_ascends (none_failing (count hs) (ascends_at hs) (ltb-false _ _ t));
    });
    three_first = λ e. absurd (omega arith);
    four_first = λ e. absurd (omega arith);
  }

  pub check_means : Means (check_of sh hs)
  unfolding check_of
  check_means = answered _ _ _ _ refl refl refl refl

  -- "accepted" is said of the admitted graphs and of no others
  pub check_admitted : (check_of sh hs).number ≡ 0 → Admitted sh hs
  check_admitted = check_means.zero_admits

  pub admitted_check : Admitted sh hs → check_of sh hs ≡ accepted
  unfolding first_outside first_not_ascending
  admitted_check a =
      sym (check_accepts sh hs refl (not_from_true _ (limits_counts limits)) a.initial_in refl outside refl falling)
    where
      limits : Limits
      limits = record {
        states_some = a.states_some;
        states_most = a.states_most;
        labels_some = a.labels_some;
        labels_most = a.labels_most;
        hops_most = a.hops_most;
        whole_hops = a.whole_hops;
      }

      outside : count hs ≤ first_outside sh hs
      outside = rw (all_passing (count hs) (inside sh hs) (range_inside a.range)) (le_refl (count hs))

      falling : count hs ≤ first_not_ascending hs
      falling = rw (all_passing (count hs) (ascends_at hs) (ascends_rising a.ascending)) (le_refl (count hs))

  -- `check` answers 0 exactly for the admitted graphs
  pub check_zero_iff : ((check_of sh hs).number ≡ 0) ↔ Admitted sh hs
  check_zero_iff = (check_admitted, λ a. ap (λ (x : Answer). x.number) (admitted_check a))
