-- From one round to the next: what is pushed on the worklist for the hops that fell is what the
-- next round tests, and testing it and taking the marks of what falls makes that round. The first
-- round. And the end: where nothing falls the marks are those of the marked set, and all tests are
-- made. Assumes nothing.
use Prim.Native.Nat.{ℕ, suc, ◌+◌, ◌*◌, ◌<◌, ◌≤◌}
use mathlib.Core.Path.{◌≡◌, refl, sym, ◌∙◌, ap}
use mathlib.Core.Bool.{Bool, true, false, cond, ◌&&◌}
use mathlib.Core.List.{List, []}
use mathlib.Core.Logic.{◌⊎◌, inl, inr, ⊎_elim}
use native.Mathlib.Numerals.{add-one}
use native.Mathlib.Omega.{arith}
use lib.ListN.{length, get_or, replicate, get_or-replicate}
use lib.Dec.{ltb}
use borrow.Author.Tests.{lt-ltb, le-ltb, ne_eqb}
use Rattle.std.specs.List.{Contains}
use Rattle.std.proofs.lemmas.List.Elements.{All-contains}
use Rattle.base_bounded.specs.Quantifiers.{tally, total}
use Rattle.base_bounded.proofs.Bools.{clash, decided, eq_or_not, lt_or_le, and_yes, and_left, and_right, same_test, no_test}
use Rattle.base_bounded.proofs.Quantifiers.{tally_same, tally_mono, tally_within, tally_less, total_more, total_most}
use Rattle.base_outputs.specs.Output.{on_front}
use Rattle.graph.specs.Hops.{count, from, label, to}
use Rattle.graph.specs.Answers.{most_hops}
use Rattle.graph.proofs.Places.{has_at}
use Rattle.base_fixpoint.specs.Pairs.{Pairs, In}
use Rattle.mark_confluence.specs.Internal.Rounds.{answered}
use Rattle.mark_confluence.specs.Rounds.{closes, survives, marked}
use Rattle.mark_confluence.specs.Internal.MarkSet.{is_marked, every_pair}
use Rattle.mark_confluence.specs.Marks.{mark_of, marks_of}
use Rattle.mark_confluence.proofs.Rounds.{survives_none}
use Rattle.mark_confluence.proofs.Closing.{Answered, answers_yes, closes_says}
use Rattle.mark_diamond_retest.specs.Internal.Retest.{CleanAnswered}
use Rattle.mark_confluence.proofs.Marks.{mark_one, marks_at, marks_capacity, marks_beyond, marks_made_lem}
use Rattle.mark_worklist.specs.Tests.{fell, still_marked, affected, tested_in, tests_in, tests_up_to, tests_of}
use Rattle.mark_worklist.proofs.Tests.{survives_closes, tested_still_marked, fell_yes, fell_place, still_marked_yes, still_marked_silent, still_marked_survives, still_marked_falls, affected_yes, affected_says, untested_survives, Stable, none_stable, stable_marked, tested_early, tests_end}
use Rattle.mark_worklist_push.specs.declared.Worklist.{Worklist}
use Rattle.mark_worklist_push.specs.Internal.Queue.{is_set, queued, Leaving, Queue, Pushed, ClosedByAny, PlacesBelow, Unset}
use Rattle.mark_worklist_push.proofs.Pushing.{queue_none, queue_length}
use Rattle.mark_worklist_round.specs.Internal.Round.{Enumerates, SkipsClean, DirtyStates, Tested, Cleared, Emptied, Unmarked, FallsIn, FallenIn}
use Rattle.mark_worklist_loop.specs.Internal.BetweenRounds.{After}
use Rattle.mark_worklist_round.proofs.Parts.{held_survives, mark_test, falls_all, marks_next, unmarked_none}

module _ (hs : List ℕ) where
  -- what fell is the set of the hops whose places are listed
  module _ (k : ℕ) {fl : List ℕ} (f : FallenIn hs k fl) where
    fell_listed : (p : ℕ) → Contains fl p → fell hs k (from hs p) (to hs p) ≡ true
    fell_listed p c =
        let (l, on, off) = All-contains (FallsIn hs k) fl p f.each c in
        fell_yes hs k (from hs p) (to hs p) (still_marked_survives hs k p on)
        (no_test (survives hs (suc k) (from hs p) (to hs p)) (λ h. clash (still_marked_yes hs (suc k) p (still_marked_silent hs k p on) h) off))

    closed_affected : (i : ℕ) → ClosedByAny hs fl i → affected hs (fell hs k) (from hs i) (to hs i) ≡ true
    closed_affected i (p, m, (a, h, x)) = affected_yes hs (fell hs k) (from hs i) (to hs i) (a, from hs p, h, (to hs p, x, fell_listed p m))

    affected_closed : (i : ℕ) → affected hs (fell hs k) (from hs i) (to hs i) ≡ true → ClosedByAny hs fl i
    affected_closed i e =
        let (a, s3, h, (s4, x, d)) = affected_says hs (fell hs k) (from hs i) (to hs i) e in
        let p = fell_place hs k s3 s4 d in
        (p.at, f.all p.at (p.within, p.stood, p.falls), (a, rw p.from_is h, rw p.to_is x))

    -- where none is listed nothing fell
    none_fell : fl ≡ [] → (s t : ℕ) → fell hs k s t ≡ false
    none_fell z s t = no_test (fell hs k s t) (λ e. let p = fell_place hs k s t e in nothing (f.all p.at (p.within, p.stood, p.falls))) where
      nothing : {i : ℕ} → Contains fl i → ⊥
      nothing (q, m, e) = let none : length fl ≡ 0 = ap length z in omega arith

    -- a round in which a hop falls tests one, so there are no more such rounds than hops
    pub falls_early : 0 < length fl → k < count hs
    falls_early l =
        let (w, a, b) = f.each 0 0 l in
        tested_early hs k (get_or fl 0 0) w (⊎_elim (λ d. d) (λ d. clash (untested_survives hs k (get_or fl 0 0) a d) b) (decided (tested_in hs k (get_or fl 0 0))))

  -- "The tests fit": at most 4,096 a round
  pub tests_most : (k : ℕ) → count hs ≤ most_hops → tests_up_to hs k ≤ k * most_hops
  unfolding tests_up_to tests_in
  tests_most k l = total_most (tests_in hs) most_hops k (λ j m. omega (arith, tally_within (tested_in hs j) (count hs)))

  tests_next : (k : ℕ) {t r : ℕ} → t ≡ tests_up_to hs k → r ≡ tests_in hs k → t + r ≡ tests_up_to hs (suc k)
  unfolding tests_up_to
  tests_next k e d = rw (← add-one k) (total_more (tests_in hs) k e d)

  module _ {k : ℕ} {ms out fl : List ℕ} {t : ℕ} (a : After hs k ms out fl t) where
    -- what is pushed is what the next round tests
    module _ {old w : Worklist} (z : old.len ≡ 0) (q : Queue hs old) (g : Pushed hs ms (ClosedByAny hs fl) old w) where
      flag_tested : (i : ℕ) → i < count hs → is_set w.flags.now i ≡ tested_in hs (suc k) i
      unfolding tested_in
      flag_tested i l = same_test (is_set w.flags.now i) (still_marked hs (suc k) i && affected hs (fell hs k) (from hs i) (to hs i)) on back where
        empty : is_set old.flags.now i ≡ true → ⊥
        empty e = let (j, m, x) = q.all i l e in absurd (omega (arith, queue_length hs ms q))

        on : is_set w.flags.now i ≡ true → (still_marked hs (suc k) i && affected hs (fell hs k) (from hs i) (to hs i)) ≡ true
        on e =
            ⊎_elim (λ h. absurd (empty h))
            (λ x. and_yes (sym (mark_test hs (suc k) ms out a.marks l) ∙ x.marked) (closed_affected k a.falls i x.inside)) (g.came i l e)

        back : (still_marked hs (suc k) i && affected hs (fell hs k) (from hs i) (to hs i)) ≡ true → is_set w.flags.now i ≡ true
        back e =
            let s : still_marked hs (suc k) i ≡ true = and_left (still_marked hs (suc k) i) (affected hs (fell hs k) (from hs i) (to hs i)) e in
            g.all i l (record {
              silent = still_marked_silent hs (suc k) i s;
              marked = mark_test hs (suc k) ms out a.marks l ∙ s;
              inside = affected_closed k a.falls i (and_right (still_marked hs (suc k) i) (affected hs (fell hs k) (from hs i) (to hs i)) e);
            })

      pub pushed_lists : Enumerates (count hs) (tested_in hs (suc k)) (queued w)
      pushed_lists = record {
        counted = queue_length hs ms g.queue ∙ g.queue.counted ∙ tally_same (is_set w.flags.now) (tested_in hs (suc k)) (count hs) flag_tested;
        each = λ j d m. let (l, e) = g.queue.each j d m in (l, sym (flag_tested (get_or (queued w) j d) l) ∙ e);
        all = λ i l e. g.queue.all i l (flag_tested i l ∙ e);
      }

      pub pushed_most : w.len ≤ count hs
      pushed_most = omega (arith, g.queue.counted, tally_within (is_set w.flags.now) (count hs))

      -- what leads to a state that nothing fell from is answered as it was in the round before
      pub pushed_skipped : (sh : List Bool) → DirtyStates hs fl sh → SkipsClean hs ms sh (queued w)
      unfolding SkipsClean DirtyStates CleanAnswered answered
      pushed_skipped sh f m d l j v e o = rw (held_survives hs (suc k) ms out a.marks) (answers_yes hs (survives hs (suc k)) (to hs i) (label hs j) (to hs j) (still (closes_says hs (survives hs k) (from hs i) (to hs i) closed (label hs j) (to hs j) (rw e at (has_at hs v))))) where
        i : ℕ
        i = get_or (queued w) m d

        closed : closes hs (survives hs k) (from hs i) (to hs i) ≡ true
        closed =
            survives_closes hs k (from hs i) (to hs i)
            (still_marked_survives hs (suc k) i (tested_still_marked hs (suc k) i (pushed_lists.each m d l).0 (pushed_lists.each m d l).1))

        still : Answered hs (In (survives hs k)) (to hs i) (label hs j) (to hs j) → Answered hs (In (survives hs (suc k))) (to hs i) (label hs j) (to hs j)
        still (s4, x, inl y) = (s4, x, inl y)
        still (s4, x, inr y) = (s4, x, inr (⊎_elim (λ z. z) (λ z. fallen z) (decided (survives hs (suc k) (to hs j) s4)))) where
          fallen : survives hs (suc k) (to hs j) s4 ≡ false → survives hs (suc k) (to hs j) s4 ≡ true
          fallen z =
              let p = fell_place hs k (to hs j) s4 (fell_yes hs k (to hs j) s4 y z) in
              let c : Contains fl p.at = a.falls.all p.at (p.within, p.stood, p.falls) in
              let u : is_set sh (to hs j) ≡ true = rw p.from_is at (All-contains (λ q. is_set sh (from hs q) ≡ true) fl p.at f c) in
              clash u o

      -- tested, the queue is empty again
      tested_unset : {new : List Bool} → Cleared hs (queued w) w.flags.now new → Unset hs new
      unfolding Unset
      tested_unset {new} d i l = no_test (is_set new i) (λ e. clash e (d.taken i (g.queue.all i l (d.kept i e))))

      pub tested_queue : {new : Worklist} → Cleared hs (queued w) w.flags.now new.flags.now → Emptied w new → Queue hs new
      tested_queue d e = queue_none hs ms d.flags (rw e.places g.queue.capacity) e.empty (tested_unset d)

      -- and its tests make the next round
      module _ {fl' : List ℕ} (d : Tested hs ms (queued w) fl') where
        pub next_falls : FallenIn hs (suc k) fl'
        next_falls = falls_all hs (suc k) ms out a.marks (queued w) pushed_lists d

        module _ {ms' : List ℕ} (capacity : count hs ≤ length ms') (u : Unmarked ms fl' ms') where
          pub after_next : After hs (suc k) ms' out fl' (t + w.len)
          unfolding tests_in
          after_next = record {
            marks = marks_next hs (suc k) ms out a.marks capacity next_falls u;
            falls = next_falls;
            tests = tests_next (suc k) a.tests (sym (queue_length hs ms g.queue) ∙ pushed_lists.counted);
          }

          fewer : (i : ℕ) → i < count hs → is_marked ms' i ≡ true → is_marked ms i ≡ true
          fewer i l e =
              mark_test hs (suc k) ms out a.marks l ∙
              still_marked_falls hs (suc k) i (sym (mark_test hs (suc (suc k)) ms' out (marks_next hs (suc k) ms out a.marks capacity next_falls u) l) ∙ e)

          pub leaving_next : (ls : List Bool) → Leaving hs ms ls → Leaving hs ms' ls
          unfolding Leaving
          leaving_next ls f i l e = f i l (fewer i l e)

          -- marks are lost, or nothing more falls
          pub after_less : {n n' : ℕ} → 0 < n → (0 < n' → 0 < length fl') → tally (count hs) (is_marked ms') + cond (ltb 0 n') 1 0 < tally (count hs) (is_marked ms) + cond (ltb 0 n) 1 0
          after_less {n} {n'} l some = rw (lt-ltb 0 n l) (go (lt_or_le 0 n')) where
            go : (0 < n') ⊎ (n' ≤ 0) → tally (count hs) (is_marked ms') + cond (ltb 0 n') 1 0 < tally (count hs) (is_marked ms) + 1
            go (inl m) =
                let (x, y, z) = next_falls.each 0 0 (some m) in
                let o : is_marked ms (get_or fl' 0 0) ≡ true = mark_test hs (suc k) ms out a.marks x ∙ y in
                let p : is_marked ms' (get_or fl' 0 0) ≡ false = mark_test hs (suc (suc k)) ms' out (marks_next hs (suc k) ms out a.marks capacity next_falls u) x ∙ z in
                rw (lt-ltb 0 n' m) (omega (arith, tally_less (is_marked ms') (is_marked ms) (count hs) fewer x p o))
            go (inr m) = rw (le-ltb 0 n' m) (omega (arith, tally_mono (is_marked ms') (is_marked ms) (count hs) fewer))

    pub after_early : 0 < length fl → k < count hs
    after_early = falls_early k a.falls

    -- the end
    module _ (z : fl ≡ []) where
      idle : Stable hs (suc k)
      idle = none_stable hs k (none_fell k a.falls z)

      pub after_tests : t ≡ tests_of hs
      after_tests = a.tests ∙ tests_end hs (suc k) idle

      all_survive : survives hs (suc k) ≡ marked hs
      all_survive = λ j s t. stable_marked hs (suc k) idle s t j

      pub after_marks : ms ≡ on_front (marks_of hs (marked hs)) out
      after_marks = rw all_survive at a.marks

  -- marks that are written at the front of a list are at the front of what is left
  pub after_itself : {k : ℕ} {ms out fl : List ℕ} {t : ℕ} → count hs ≤ length ms → After hs k ms out fl t → After hs k ms ms fl t
  after_itself {k} {ms} {out} capacity a = record {
    marks = marks_made_lem hs (survives hs (suc k)) ms ms capacity (λ i l. marks_at hs (survives hs (suc k)) ms out a.marks l) refl;
    falls = a.falls;
    tests = a.tests;
  }

  visible_unmarked : (u : Pairs) (i : ℕ) → (label hs i ≡ 0 → ⊥) → mark_of hs u i ≡ 0
  unfolding mark_of
  visible_unmarked u i n = rw (ne_eqb (label hs i) 0 n)

  -- the first round
  module _ (ms out : List ℕ) (capacity : count hs ≤ length out) (e : ms ≡ on_front (marks_of hs every_pair) out) where
    first_marks : ms ≡ on_front (marks_of hs (survives hs 0)) out
    first_marks =
        marks_made_lem hs (survives hs 0) ms out (rw (marks_capacity hs every_pair ms out e capacity) capacity) at_place (marks_beyond hs every_pair ms out e) where
          at_place : (i : ℕ) → i < count hs → get_or ms i 0 ≡ mark_of hs (survives hs 0) i
          at_place i l = marks_at hs every_pair ms out e l ∙ go (eq_or_not (label hs i) 0) where
            go : (label hs i ≡ 0) ⊎ (label hs i ≡ 0 → ⊥) → mark_of hs every_pair i ≡ mark_of hs (survives hs 0) i
            go (inl q) =
                mark_one hs every_pair i q refl ∙ sym (mark_one hs (survives hs 0) i q (survives_none hs (from hs i) (to hs i) ∙ (rw q at (has_at hs l))))
            go (inr q) = visible_unmarked every_pair i q ∙ sym (visible_unmarked (survives hs 0) i q)

    pub after_first : {qs fl ms' : List ℕ} {n : ℕ} → length qs ≡ n → Enumerates (count hs) (tested_in hs 0) qs → Tested hs ms qs fl →
        Unmarked ms fl ms' → count hs ≤ length ms' → After hs 0 ms' out fl n
    unfolding tests_up_to tests_in total
    after_first {qs} q d x w m = record {
      marks = marks_next hs 0 ms out first_marks m (falls_all hs 0 ms out first_marks qs d x) w;
      falls = falls_all hs 0 ms out first_marks qs d x;
      tests = omega (arith, d.counted);
    }

    -- in which nothing fell
    pub after_still : {qs : List ℕ} {n : ℕ} → length qs ≡ n → Enumerates (count hs) (tested_in hs 0) qs → Tested hs ms qs [] → After hs 0 ms out [] n
    after_still q d x = after_first q d x (unmarked_none ms) (rw (marks_capacity hs every_pair ms out e capacity) capacity)

  -- what fell are places of hops
  pub falls_listed : {k : ℕ} {fl : List ℕ} → FallenIn hs k fl → PlacesBelow hs fl
  falls_listed f k d l = (f.each k d l).0

  -- no flag is set at first
  pub none_set : count hs ≤ most_hops → Unset hs (replicate most_hops false)
  unfolding Unset
  none_set l i k = get_or-replicate most_hops i false false (omega arith)
