-- What the first fault means: one of the sums counts it, no fault comes before it, and there is
-- none exactly when the count is 0. Assumes nothing.
use Prim.Native.Nat.{ℕ, ◌<◌, ◌≤◌}
use mathlib.Core.Path.{◌≡◌, refl}
use mathlib.Core.Bool.{Bool, true, false, cond, not, ◌&&◌}
use mathlib.Core.List.{List}
use mathlib.Core.Logic.{◌⊎◌, inl, inr, ⊎_elim}
use native.Mathlib.Omega.{arith}
use borrow.Author.Tests.{eq-eqb, ne_eqb, not-true, not-false, lt-ltb, le-ltb}
use lib.Dec.{eqb, ltb}
use Rattle.std.specs.Prelude.{Option, Some, None}
use Rattle.std.specs.Option.{unwrap_or, option_or}
use Rattle.std.proofs.lemmas.Bool.{and_left, and_right, cases_eq, cases_lt, not_from_false, or_from}
use Rattle.base_bounded.specs.Quantifiers.{any, least, tally}
use Rattle.base_bounded.proofs.Bools.{clash}
use Rattle.base_bounded.proofs.Quantifiers.{any_at, any_found, any_never, least_passes, least_before, tally_each, tally_zero, total_each, total_zero}
use Rattle.base_bounded.proofs.Least.{least_some, least_all, zero_least}
use Rattle.graph.specs.Hops.{count}
use Rattle.graph.specs.Map.{mapped}
use Rattle.graph.specs.declared.Shape.{Shape}
use Rattle.audit_faults.specs.Faults.{initial_fault, preserved, lost_faults, unmatched, unmatched_faults, faults_of}
use Rattle.audit_faults.specs.First.{fault, no_fault, first_initial, lost_place, first_lost, unmatched_place, unmatched_state, first_unmatched, or_else, first_fault, named, IsFault, fault_before, IsFirst}
use Rattle.audit_faults.specs.declared.Fault.{Fault}

-- a fault whose place is not below p, and at p its state not below t, is not before the fault of
-- that kind with p and t
not_sooner : (k : ℕ) {i p : ℕ} → p ≤ i → {s t : ℕ} → (i ≡ p → t ≤ s) → fault_before (fault k i s) (fault k p t) ≡ false
unfolding fault_before
not_sooner k {i} {p} l {s} {t} f =
    or_from _ _ (le-ltb k k (omega arith)) (and_right (eqb k k) _ (or_from _ _ (le-ltb i p l) (go (cases_eq i p)))) where
      go : (i ≡ p) ⊎ (i ≡ p → ⊥) → (eqb i p && ltb s t) ≡ false
      go (inl e) = and_right (eqb i p) _ (le-ltb s t (f e))
      go (inr d) = and_left _ (ltb s t) (ne_eqb i p d)

-- nor is a fault of a higher kind
higher : (f g : Fault) → g.kind < f.kind → fault_before f g ≡ false
unfolding fault_before
higher f g l = or_from _ _ (le-ltb f.kind g.kind (omega arith)) (and_left _ _ (ne_eqb f.kind g.kind (λ e. omega arith)))

-- the first of two faults that are named
pub named_first : (f g : Fault) {x y : Option Fault} → x ≡ named f → y ≡ named g → option_or x y ≡ named (or_else f g)
named_first f g d e = rw (d, e) (go (eqb f.kind 0) refl) where
  go : (b : Bool) → eqb f.kind 0 ≡ b → option_or (cond b None (Some f)) (named g) ≡ named (cond b g f)
  go true d = refl
  go false d = rw d refl

module _ (sh1 sh2 : Shape) (h1 h2 m : List ℕ) where
  abbrev lost : ℕ → Bool
  lost i = not (preserved h1 h2 m i)

  abbrev made : ℕ → Bool
  made j = any sh1.states (unmatched sh1 h1 h2 m j)

  -- kind 1
  Joined : Type 0
  Joined = (mapped m sh1.initial ≡ sh2.initial) × (first_initial sh1 sh2 m ≡ no_fault) × (initial_fault sh1 sh2 m ≡ 0)

  Parted : Type 0
  Parted = (mapped m sh1.initial ≡ sh2.initial → ⊥) × (first_initial sh1 sh2 m ≡ fault 1 0 0) × (initial_fault sh1 sh2 m ≡ 1)

  initially : Joined ⊎ Parted
  unfolding Joined Parted first_initial initial_fault
  initially = go (cases_eq (mapped m sh1.initial) sh2.initial) where
    go : (mapped m sh1.initial ≡ sh2.initial) ⊎ (mapped m sh1.initial ≡ sh2.initial → ⊥) → Joined ⊎ Parted
    go (inl e) = inl (e, rw (eq-eqb _ _ e) refl, rw (eq-eqb _ _ e) refl)
    go (inr d) = inr (d, rw (ne_eqb _ _ d) refl, rw (ne_eqb _ _ d) refl)

  -- kind 2
  Kept : Type 0
  Kept = ((i : ℕ) → i < count h1 → preserved h1 h2 m i ≡ true) × (first_lost h1 h2 m ≡ no_fault) × (lost_faults h1 h2 m ≡ 0)

  Lost : Type 0
  Lost = (lost_place h1 h2 m < count h1) × (first_lost h1 h2 m ≡ fault 2 (lost_place h1 h2 m) 0) × (lost_faults h1 h2 m ≡ 0 → ⊥)

  losing : Kept ⊎ Lost
  unfolding Kept Lost first_lost lost_place lost_faults
  losing = go (cases_lt (least (count h1) lost) (count h1)) where
    go : (least (count h1) lost < count h1) ⊎ (count h1 ≤ least (count h1) lost) → Kept ⊎ Lost
    go (inl l) = inr (l, rw (lt-ltb _ _ l) refl, λ z. clash (least_passes lost (count h1) l) (tally_each lost (count h1) z l))
    go (inr l) = inl (λ i k. not-false _ (least_all lost (count h1) l k), rw (le-ltb _ _ l) refl, zero_least lost (count h1) l)

  -- kind 3
  Backed : Type 0
  Backed = ((j s : ℕ) → j < count h2 → s < sh1.states → unmatched sh1 h1 h2 m j s ≡ false) × (first_unmatched sh1 h1 h2 m ≡ no_fault) × (unmatched_faults sh1 h1 h2 m ≡ 0)

  MadeUp : Type 0
  MadeUp =
      (unmatched_place sh1 h1 h2 m < count h2) × (first_unmatched sh1 h1 h2 m ≡ fault 3 (unmatched_place sh1 h1 h2 m) (unmatched_state sh1 h1 h2 m)) ×
      (unmatched_faults sh1 h1 h2 m ≡ 0 → ⊥)

  making : Backed ⊎ MadeUp
  unfolding Backed MadeUp first_unmatched unmatched_place unmatched_faults
  making = go (cases_lt (least (count h2) made) (count h2)) where
    go : (least (count h2) made < count h2) ⊎ (count h2 ≤ least (count h2) made) → Backed ⊎ MadeUp
    go (inl l) =
        let (s, k, d) = any_at (unmatched sh1 h1 h2 m (least (count h2) made)) sh1.states (least_passes made (count h2) l) in
        inr (
          l,
          rw (lt-ltb _ _ l) refl,
          λ z. clash d (tally_each (unmatched sh1 h1 h2 m (least (count h2) made)) sh1.states (total_each (λ (j : ℕ). tally sh1.states (unmatched sh1 h1 h2 m j)) (count h2) z l) k),
        )
    go (inr l) =
        let none : (j s : ℕ) → j < count h2 → s < sh1.states → unmatched sh1 h1 h2 m j s ≡ false =
        λ j s a b. any_never (unmatched sh1 h1 h2 m j) sh1.states (least_all made (count h2) l a) b in
        inl (
          none,
          rw (le-ltb _ _ l) refl,
          total_zero (λ (j : ℕ). tally sh1.states (unmatched sh1 h1 h2 m j)) (count h2) (λ j a. tally_zero (unmatched sh1 h1 h2 m j) sh1.states (λ s b. none j s a b)),
        )

  -- an unmatched hop is not before the place of the first, nor, at that place, its state before the
  -- first state
  unmatched_not_before : {j s : ℕ} → j < count h2 → s < sh1.states → unmatched sh1 h1 h2 m j s ≡ true → unmatched_place sh1 h1 h2 m ≤ j
  unfolding unmatched_place
  unmatched_not_before {j} {s} a b d =
      ⊎_elim (λ l. clash (any_found (unmatched sh1 h1 h2 m j) sh1.states b d) (least_before made (count h2) l)) (λ l. l) (cases_lt j (least (count h2) made))

  state_not_before : {j s : ℕ} → s < sh1.states → unmatched sh1 h1 h2 m j s ≡ true → j ≡ unmatched_place sh1 h1 h2 m → unmatched_state sh1 h1 h2 m ≤ s
  unfolding unmatched_state
  state_not_before {j} {s} b d e =
      let test = unmatched sh1 h1 h2 m (unmatched_place sh1 h1 h2 m) in
      ⊎_elim (λ l. clash (rw e at d) (least_before test sh1.states l)) (λ l. l) (cases_lt s (least sh1.states test))

  lost_not_before : {i : ℕ} → i < count h1 → preserved h1 h2 m i ≡ false → lost_place h1 h2 m ≤ i
  unfolding lost_place
  lost_not_before {i} l d = ⊎_elim (λ k. clash (not_from_false _ d) (least_before lost (count h1) k)) (λ k. k) (cases_lt i (least (count h1) lost))

  is_lost : lost_place h1 h2 m < count h1 → preserved h1 h2 m (lost_place h1 h2 m) ≡ false
  unfolding lost_place
  is_lost k = not-true _ (least_passes lost (count h1) k)

  abbrev there : Type 0
  there =
      (j : ℕ) × (s : ℕ) × (j < count h2) × (s < sh1.states) × (unmatched sh1 h1 h2 m j s ≡ true) ×
      (fault 3 (unmatched_place sh1 h1 h2 m) (unmatched_state sh1 h1 h2 m) ≡ fault 3 j s)

  is_made : unmatched_place sh1 h1 h2 m < count h2 → there
  unfolding unmatched_place unmatched_state
  is_made k =
      let test = unmatched sh1 h1 h2 m (least (count h2) made) in
      let some : least sh1.states test < sh1.states = least_some test sh1.states (least_passes made (count h2) k) in
      (least (count h2) made, least sh1.states test, k, some, least_passes test sh1.states some, refl)

  when_parted : Parted → IsFirst sh1 sh2 h1 h2 m (first_fault sh1 sh2 h1 h2 m)
  unfolding Parted first_fault faults_of
  when_parted (d, e, z) = rw e (record {
    none = (λ q. absurd (omega arith), λ q. absurd (omega (arith, z)));
    none_at_all = λ q. absurd (omega arith);
    a_fault = λ _. inl (d, refl);
    none_before = before;
  }) where
    before : (g : Fault) → IsFault sh1 sh2 h1 h2 m g → fault_before g (fault 1 0 0) ≡ false
    before g (inl (_, q)) = rw q (not_sooner 1 (omega arith) (λ _. omega arith))
    before g (inr (inl (i, _, _, q))) = rw q (higher _ _ (omega arith))
    before g (inr (inr (j, s, _, _, _, q))) = rw q (higher _ _ (omega arith))

  when_lost : Joined → Lost → IsFirst sh1 sh2 h1 h2 m (first_fault sh1 sh2 h1 h2 m)
  unfolding Joined Lost first_fault faults_of
  when_lost (c, e, z) (l, f, y) = rw (e, f) (record {
    none = (λ q. absurd (omega arith), λ q. absurd (y (omega arith)));
    none_at_all = λ q. absurd (omega arith);
    a_fault = λ _. inr (inl (lost_place h1 h2 m, l, is_lost l, refl));
    none_before = before;
  }) where
    before : (g : Fault) → IsFault sh1 sh2 h1 h2 m g → fault_before g (fault 2 (lost_place h1 h2 m) 0) ≡ false
    before g (inl (d, q)) = absurd (d c)
    before g (inr (inl (i, a, d, q))) = rw q (not_sooner 2 (lost_not_before a d) (λ _. omega arith))
    before g (inr (inr (j, s, _, _, _, q))) = rw q (higher _ _ (omega arith))

  when_unmatched : Joined → Kept → MadeUp → IsFirst sh1 sh2 h1 h2 m (first_fault sh1 sh2 h1 h2 m)
  unfolding Joined Kept MadeUp first_fault faults_of
  when_unmatched (c, e, z) (k, f, y) (l, h, x) = rw (e, f, h) (record {
    none = (λ q. absurd (omega arith), λ q. absurd (x (omega arith)));
    none_at_all = λ q. absurd (omega arith);
    a_fault = λ _. inr (inr (is_made l));
    none_before = before;
  }) where
    before : (g : Fault) → IsFault sh1 sh2 h1 h2 m g → fault_before g (fault 3 (unmatched_place sh1 h1 h2 m) (unmatched_state sh1 h1 h2 m)) ≡ false
    before g (inl (d, q)) = absurd (d c)
    before g (inr (inl (i, a, d, q))) = clash (k i a) d
    before g (inr (inr (j, s, a, b, d, q))) = rw q (not_sooner 3 (unmatched_not_before a b d) (state_not_before b d))

  when_none : Joined → Kept → Backed → IsFirst sh1 sh2 h1 h2 m (first_fault sh1 sh2 h1 h2 m)
  unfolding Joined Kept Backed first_fault faults_of
  when_none (c, e, z) (k, f, y) (b, h, x) = rw (e, f, h) (record {
    none = (λ _. omega arith, λ _. refl);
    none_at_all = λ _. never;
    a_fault = λ d. absurd (d refl);
    none_before = λ g q. absurd (never g q);
  }) where
    never : (g : Fault) → IsFault sh1 sh2 h1 h2 m g → ⊥
    never g (inl (d, q)) = d c
    never g (inr (inl (i, a, d, q))) = clash (k i a) d
    never g (inr (inr (j, s, a, l, d, q))) = clash d (b j s a l)

  -- the fault that is named is the first: for every two graphs and map, admitted or not
  pub first_fault_correct : IsFirst sh1 sh2 h1 h2 m (first_fault sh1 sh2 h1 h2 m)
  first_fault_correct = ⊎_elim (λ j. ⊎_elim (λ k. ⊎_elim (when_none j k) (when_unmatched j k) making) (when_lost j) losing) when_parted initially

  -- the figures of the fault that is named, or of none, are those of the first fault
  pub named_figures : unwrap_or (named (first_fault sh1 sh2 h1 h2 m)) no_fault ≡ first_fault sh1 sh2 h1 h2 m
  unfolding Joined Parted Kept Lost Backed MadeUp first_fault
  named_figures = go initially losing making where
    go : Joined ⊎ Parted → Kept ⊎ Lost → Backed ⊎ MadeUp → unwrap_or (named (first_fault sh1 sh2 h1 h2 m)) no_fault ≡ first_fault sh1 sh2 h1 h2 m
    go (inr (d, e, y)) k b = rw e refl
    go (inl (c, e, z)) (inr (l, f, y)) b = rw (e, f) refl
    go (inl (c, e, z)) (inl (k, f, y)) (inr (l, h, x)) = rw (e, f, h) refl
    go (inl (c, e, z)) (inl (k, f, y)) (inl (b, h, x)) = rw (e, f, h) refl

  -- no fault is counted, and none is named
  pub no_fault_named : faults_of sh1 sh2 h1 h2 m ≡ 0 → no_fault ≡ first_fault sh1 sh2 h1 h2 m
  unfolding Joined Parted Kept Lost Backed MadeUp first_fault faults_of
  no_fault_named z = go initially losing making where
    go : Joined ⊎ Parted → Kept ⊎ Lost → Backed ⊎ MadeUp → no_fault ≡ first_fault sh1 sh2 h1 h2 m
    go (inr (d, e, y)) k b = absurd (omega (arith, z, y))
    go (inl j) (inr (l, e, y)) b = absurd (y (omega (arith, z)))
    go (inl j) (inl k) (inr (l, e, y)) = absurd (y (omega (arith, z)))
    go (inl (c, e, z)) (inl (k, f, y)) (inl (b, h, x)) = rw (e, f, h)
