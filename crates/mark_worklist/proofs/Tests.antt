-- The rounds are the same if only the hops on the worklist (`tested_in`) are tested. A hop that
-- survives k rounds and is not tested in the next survives it too; after a round without a test
-- there are no more tests; and as many rounds as there are hops have all the tests. Assumes
-- nothing.
use Prim.Native.Nat.{ℕ, zero, suc, ◌+◌, ◌<◌, ◌≤◌}
use mathlib.Core.Path.{◌≡◌, refl, sym, ◌∙◌}
use mathlib.Core.Bool.{true, false, not, ◌&&◌, ◌||◌}
use mathlib.Core.List.{List}
use mathlib.Core.Logic.{◌⊎◌, inl, inr, ⊎_elim}
use native.Mathlib.Omega.{arith}
use lib.Dec.{eqb}
use borrow.Author.Tests.{eq-eqb, eqb-true, not-true}
use Rattle.base_bounded.specs.Quantifiers.{any, tally, total}
use Rattle.graph.specs.Hops.{count, from, label, to, has}
use Rattle.base_bounded.proofs.Bools.{clash, decided, and_yes, and_left, and_right, and_no_right, or_right, or_yes, same_test, no_test, not_no}
use Rattle.base_bounded.proofs.Quantifiers.{any_at, any_found, tally_within, tally_less, tally_zero}
use Rattle.graph.proofs.Places.{has_at, has_place}
use Rattle.base_fixpoint.specs.Pairs.{Pairs, In}
use Rattle.base_fixpoint.proofs.Approximants.{approximant_meets, approximant_yes, approximant_falls, approximant_rests}
use Rattle.mark_confluence.specs.Rounds.{FirstPoint, answers, closes, silent_hops, survives, marked}
use Rattle.mark_confluence.proofs.Closing.{Reaches, Closed, reaches_yes, reaches_says, closes_says, closes_yes}
use Rattle.mark_confluence.proofs.Rounds.{closes_monotone, silent_listed, survives_none, survives_silent}
use Rattle.mark_worklist.specs.Tests.{fell, still_marked, affected_at, affected, tested_in, tests_in, tests_up_to, tests_of}

-- "a hop to try and an s4, by document 01's first point, with s3 to s4" in U
abbrev pub Affected : List ℕ → (ℕ → ℕ → Type 0) → ℕ → ℕ → Type 0
Affected hs U s1 s2 = (a : ℕ) × (s3 : ℕ) × (has hs s1 a s3 ≡ true) × Reaches hs U s2 a s3

module _ (hs : List ℕ) where
  -- the rounds one after the other
  pub survives_closes : (k s t : ℕ) → survives hs (suc k) s t ≡ true → closes hs (survives hs k) s t ≡ true
  unfolding survives
  survives_closes = approximant_meets (closes hs) (silent_hops hs)

  pub survives_yes : (k s t : ℕ) → has hs s 0 t ≡ true → closes hs (survives hs k) s t ≡ true → survives hs (suc k) s t ≡ true
  unfolding survives
  survives_yes = approximant_yes (closes hs) (silent_hops hs)

  pub survives_falls : (k s t : ℕ) → survives hs (suc k) s t ≡ true → survives hs k s t ≡ true
  unfolding survives
  survives_falls = approximant_falls (closes hs) (silent_hops hs) (closes_monotone hs)

  -- the test says that, and the other way round
  module _ (v : Pairs) where
    pub affected_yes : (s1 s2 : ℕ) → Affected hs (In v) s1 s2 → affected hs v s1 s2 ≡ true
    unfolding affected affected_at
    affected_yes s1 s2 (a, s3, h, x) =
        let p = has_place hs s1 a s3 h in
        any_found (affected_at hs v s1 s2) (count hs) p.within
        (and_yes (eq-eqb (from hs p.at) s1 p.from_is) (rw (p.label_is, p.to_is) (reaches_yes hs v s2 a s3 x)))

    pub affected_says : (s1 s2 : ℕ) → affected hs v s1 s2 ≡ true → Affected hs (In v) s1 s2
    unfolding affected affected_at
    affected_says s1 s2 e =
        let (j, l, w) = any_at (affected_at hs v s1 s2) (count hs) e in
        let f : from hs j ≡ s1 = eqb-true (from hs j) s1 (and_left (eqb (from hs j) s1) (answers hs v s2 (label hs j) (to hs j)) w) in
        (label hs j, to hs j, rw f at (has_at hs l), reaches_says hs v s2 (label hs j) (to hs j) (and_right (eqb (from hs j) s1) (answers hs v s2 (label hs j) (to hs j)) w))

    pub affected_iff : (s1 s2 : ℕ) → (affected hs v s1 s2 ≡ true → Affected hs (In v) s1 s2) × (Affected hs (In v) s1 s2 → affected hs v s1 s2 ≡ true)
    affected_iff s1 s2 = (affected_says s1 s2, affected_yes s1 s2)

  -- a hop that closes with a set, and is not affected by what the set loses, closes with what is
  -- left
  closes_left : (u w v : Pairs) → ((s t : ℕ) → u s t ≡ true → w s t ≡ false → v s t ≡ true) →
      (s1 s2 : ℕ) → closes hs u s1 s2 ≡ true → affected hs v s1 s2 ≡ false → closes hs w s1 s2 ≡ true
  closes_left u w v f s1 s2 c n = closes_yes hs w s1 s2 closed where
    closed : Closed hs (In w) s1 s2
    closed a s3 h = let (s4, x, y) = closes_says hs u s1 s2 c a s3 h in (s4, x, left s4 x y) where
      left : (s4 : ℕ) → FirstPoint hs s2 a s4 → (s3 ≡ s4) ⊎ In u s3 s4 → (s3 ≡ s4) ⊎ In w s3 s4
      left s4 x (inl e) = inl e
      left s4 x (inr m) = ⊎_elim (λ e. inr e) (λ e. clash (affected_yes v s1 s2 (a, s3, h, (s4, x, f s3 s4 m e))) n) (decided (w s3 s4))

  pub fell_yes : (k s t : ℕ) → survives hs k s t ≡ true → survives hs (suc k) s t ≡ false → fell hs k s t ≡ true
  unfolding fell
  fell_yes k s t p q = and_yes p (not_no q)

  pub fell_says : (k s t : ℕ) → fell hs k s t ≡ true → (survives hs k s t ≡ true) × (survives hs (suc k) s t ≡ false)
  unfolding fell
  fell_says k s t e =
      (and_left (survives hs k s t) (not (survives hs (suc k) s t)) e, not-true (survives hs (suc k) s t) (and_right (survives hs k s t) (not (survives hs (suc k) s t)) e))

  pub still_marked_yes : (k i : ℕ) → label hs i ≡ 0 → survives hs k (from hs i) (to hs i) ≡ true → still_marked hs k i ≡ true
  unfolding still_marked
  still_marked_yes k i q e = and_yes (eq-eqb (label hs i) 0 q) e

  pub still_marked_silent : (k i : ℕ) → still_marked hs k i ≡ true → label hs i ≡ 0
  unfolding still_marked
  still_marked_silent k i e = eqb-true (label hs i) 0 (and_left (eqb (label hs i) 0) (survives hs k (from hs i) (to hs i)) e)

  pub still_marked_survives : (k i : ℕ) → still_marked hs k i ≡ true → survives hs k (from hs i) (to hs i) ≡ true
  unfolding still_marked
  still_marked_survives k i e = and_right (eqb (label hs i) 0) (survives hs k (from hs i) (to hs i)) e

  pub still_marked_falls : (k i : ℕ) → still_marked hs (suc k) i ≡ true → still_marked hs k i ≡ true
  still_marked_falls k i e =
      still_marked_yes k i (still_marked_silent (suc k) i e) (survives_falls k (from hs i) (to hs i) (still_marked_survives (suc k) i e))

  -- a hop that is tested is still marked
  pub tested_still_marked : (k i : ℕ) → i < count hs → tested_in hs k i ≡ true → still_marked hs k i ≡ true
  unfolding tested_in
  tested_still_marked zero i l e =
      let q : label hs i ≡ 0 = eqb-true (label hs i) 0 e in
      still_marked_yes 0 i q (survives_none hs (from hs i) (to hs i) ∙ (rw q at (has_at hs l)))
  tested_still_marked (suc k) i l e = and_left (still_marked hs (suc k) i) (affected hs (fell hs k) (from hs i) (to hs i)) e

  -- (a) a hop that survives k rounds and is not tested in round k + 1 survives that round
  pub untested_survives : (k i : ℕ) → still_marked hs k i ≡ true → tested_in hs k i ≡ false → still_marked hs (suc k) i ≡ true
  unfolding tested_in
  untested_survives zero i e n = clash (eq-eqb (label hs i) 0 (still_marked_silent 0 i e)) n
  untested_survives (suc k) i e n =
      let s : survives hs (suc k) (from hs i) (to hs i) ≡ true = still_marked_survives (suc k) i e in
      still_marked_yes (suc (suc k)) i (still_marked_silent (suc k) i e)
      (survives_yes (suc k) (from hs i) (to hs i) (survives_silent hs (suc k) (from hs i) (to hs i) s)
      (closes_left (survives hs k) (survives hs (suc k)) (fell hs k) (fell_yes k) (from hs i) (to hs i)
      (survives_closes k (from hs i) (to hs i) s) unaffected)) where
        unaffected : affected hs (fell hs k) (from hs i) (to hs i) ≡ false
        unaffected =
            no_test (affected hs (fell hs k) (from hs i) (to hs i)) (λ h. clash (and_yes e h) n)

  -- (b) so a round takes the marks of the tested hops that do not close, and no others
  pub round_takes : (k i : ℕ) → still_marked hs (suc k) i ≡ (still_marked hs k i && (not (tested_in hs k i) || closes hs (survives hs k) (from hs i) (to hs i)))
  round_takes k i =
      same_test (still_marked hs (suc k) i) (still_marked hs k i && (not (tested_in hs k i) || closes hs (survives hs k) (from hs i) (to hs i))) on back where
        on : still_marked hs (suc k) i ≡ true → (still_marked hs k i && (not (tested_in hs k i) || closes hs (survives hs k) (from hs i) (to hs i))) ≡ true
        on e = and_yes (still_marked_falls k i e) (or_right (not (tested_in hs k i)) (survives_closes k (from hs i) (to hs i) (still_marked_survives (suc k) i e)))

        back : (still_marked hs k i && (not (tested_in hs k i) || closes hs (survives hs k) (from hs i) (to hs i))) ≡ true → still_marked hs (suc k) i ≡ true
        back e = ⊎_elim (λ n. untested_survives k i h (not-true (tested_in hs k i) n)) closed (or_yes (not (tested_in hs k i)) (closes hs (survives hs k) (from hs i) (to hs i)) g) where
          h : still_marked hs k i ≡ true
          h = and_left (still_marked hs k i) (not (tested_in hs k i) || closes hs (survives hs k) (from hs i) (to hs i)) e

          g : (not (tested_in hs k i) || closes hs (survives hs k) (from hs i) (to hs i)) ≡ true
          g = and_right (still_marked hs k i) (not (tested_in hs k i) || closes hs (survives hs k) (from hs i) (to hs i)) e

          closed : closes hs (survives hs k) (from hs i) (to hs i) ≡ true → still_marked hs (suc k) i ≡ true
          closed c =
              still_marked_yes (suc k) i (still_marked_silent k i h)
              (survives_yes k (from hs i) (to hs i) (survives_silent hs k (from hs i) (to hs i) (still_marked_survives k i h)) c)

  -- what fell stood at a place, and was tested there
  pub record FellAt (k s t : ℕ) : Type 0 where
    pub at : ℕ
    pub within : at < count hs
    pub from_is : from hs at ≡ s
    pub to_is : to hs at ≡ t
    pub stood : still_marked hs k at ≡ true
    pub falls : still_marked hs (suc k) at ≡ false
    pub tested : tested_in hs k at ≡ true

  pub fell_place : (k s t : ℕ) → fell hs k s t ≡ true → FellAt k s t
  fell_place k s t e =
      let (a, b) = fell_says k s t e in
      let p = has_place hs s 0 t (survives_silent hs k s t a) in
      let on : still_marked hs k p.at ≡ true = still_marked_yes k p.at p.label_is (rw (p.from_is, p.to_is) a) in
      let off : still_marked hs (suc k) p.at ≡ false = no_test (still_marked hs (suc k) p.at)
      (λ h. clash (rw (p.from_is, p.to_is) at (still_marked_survives (suc k) p.at h)) b) in
      record {
        at = p.at;
        within = p.within;
        from_is = p.from_is;
        to_is = p.to_is;
        stood = on;
        falls = off;
        tested = ⊎_elim (λ d. d) (λ d. clash (untested_survives k p.at on d) off) (decided (tested_in hs k p.at));
      }

  -- a round without a test
  abbrev pub Stable : ℕ → Type 0
  Stable k = (i : ℕ) → i < count hs → tested_in hs k i ≡ false

  -- (c) takes no mark,
  stable_none_falls : (k : ℕ) → Stable k → (s t : ℕ) → fell hs k s t ≡ false
  stable_none_falls k n s t = no_test (fell hs k s t) (λ e. let p = fell_place k s t e in clash p.tested (n p.at p.within))

  stable_still : (k : ℕ) → Stable k → (s t : ℕ) → survives hs (suc k) s t ≡ survives hs k s t
  stable_still k n s t =
      same_test (survives hs (suc k) s t) (survives hs k s t) (survives_falls k s t)
      (λ e. ⊎_elim (λ h. h) (λ h. clash (fell_yes k s t e h) (stable_none_falls k n s t)) (decided (survives hs (suc k) s t)))

  -- and after a round in which nothing falls no hop is tested
  pub none_stable : (k : ℕ) → ((s t : ℕ) → fell hs k s t ≡ false) → Stable (suc k)
  unfolding tested_in
  none_stable k f i l =
      and_no_right (still_marked hs (suc k) i) (no_test (affected hs (fell hs k) (from hs i) (to hs i))
      (λ h. let (a, s3, x, (s4, y, e)) = affected_says (fell hs k) (from hs i) (to hs i) h in clash e (f s3 s4)))

  -- so only such rounds follow
  stable_next : (k : ℕ) → Stable k → Stable (suc k)
  stable_next k n = none_stable k (stable_none_falls k n)

  pub stable_after : (k : ℕ) → Stable k → (m : ℕ) → Stable (m + k)
  stable_after k n zero = rw zero_left n where
    zero_left : 0 + k ≡ k
    zero_left = omega arith
  stable_after k n (suc m) = rw suc_left (stable_next (m + k) (stable_after k n m)) where
    suc_left : suc m + k ≡ suc (m + k)
    suc_left = omega arith

  pub stable_rests : (k : ℕ) → Stable k → (m s t : ℕ) → survives hs (m + k) s t ≡ survives hs k s t
  stable_rests k n zero s t = rw zero_left where
    zero_left : 0 + k ≡ k
    zero_left = omega arith
  stable_rests k n (suc m) s t = rw suc_left (stable_still (m + k) (stable_after k n m) s t ∙ stable_rests k n m s t) where
    suc_left : suc m + k ≡ suc (m + k)
    suc_left = omega arith

  pub stable_marked : (k : ℕ) → Stable k → (s t : ℕ) → survives hs k s t ≡ marked hs s t
  unfolding marked survives
  stable_marked k n s t = sym (stable_rests k n (count hs) s t) ∙ (rw turned (sym (approximant_rests (closes hs) (silent_hops hs) (closes_monotone hs) (silent_listed hs) k s t))) where
    turned : count hs + k ≡ k + count hs
    turned = omega arith

  -- before each round with a test one more hop has fallen, so there are at most as many such rounds
  -- as hops
  spent : (k i : ℕ) → i < count hs → tested_in hs k i ≡ true → tally (count hs) (still_marked hs k) + k ≤ count hs
  unfolding tested_in
  spent zero i l e = omega (arith, tally_within (still_marked hs 0) (count hs))
  spent (suc k) i l e =
      let (a, s3, x, (s4, y, f)) = affected_says (fell hs k) (from hs i) (to hs i) (and_right (still_marked hs (suc k) i) (affected hs (fell hs k) (from hs i) (to hs i)) e) in
      let p = fell_place k s3 s4 f in
      omega (arith, spent k p.at p.within p.tested, tally_less (still_marked hs (suc k)) (still_marked hs k) (count hs) (λ z w. still_marked_falls k z) p.within p.falls p.stood)

  pub tested_early : (k i : ℕ) → i < count hs → tested_in hs k i ≡ true → k < count hs
  tested_early k i l e =
      omega (arith, spent k i l e, tally_less (λ (j : ℕ). false) (still_marked hs k) (count hs) (λ j m h. clash h refl) l refl (tested_still_marked k i l e))

  pub stable_late : (m : ℕ) → Stable (m + count hs)
  stable_late m i l = no_test (tested_in hs (m + count hs) i) (λ e. absurd (omega (arith, tested_early (m + count hs) i l e)))

  -- so the number of tests is that of any number of rounds after which no hop is tested
  stable_tests : (k : ℕ) → Stable k → tests_in hs k ≡ 0
  unfolding tests_in
  stable_tests k n = tally_zero (tested_in hs k) (count hs) n

  tests_rest : (k : ℕ) → Stable k → (m : ℕ) → tests_up_to hs (m + k) ≡ tests_up_to hs k
  unfolding tests_up_to total
  tests_rest k n zero = rw zero_left where
    zero_left : 0 + k ≡ k
    zero_left = omega arith
  tests_rest k n (suc m) =
      rw suc_left (omega (arith, stable_tests (m + k) (stable_after k n m), tests_rest k n m)) where
        suc_left : suc m + k ≡ suc (m + k)
        suc_left = omega arith

  -- the bound cuts off no test
  pub tests_all : (m : ℕ) → tests_up_to hs (m + count hs) ≡ tests_of hs
  unfolding tests_of
  tests_all m = tests_rest (count hs) (rw zero_left at (stable_late 0)) m where
    zero_left : 0 + count hs ≡ count hs
    zero_left = omega arith

  pub tests_end : (k : ℕ) → Stable k → tests_up_to hs k ≡ tests_of hs
  tests_end k n = sym (tests_rest k n (count hs)) ∙ (rw turned (tests_all k)) where
    turned : count hs + k ≡ k + count hs
    turned = omega arith
