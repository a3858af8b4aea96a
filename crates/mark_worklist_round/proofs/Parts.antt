-- The parts of a round, place by place, and that together they make one: what is tested and does
-- not close is what falls, and without the marks of what fell the marks are those of the hops that
-- survive the round. Where nothing falls the rounds are over. Assumes nothing.
use Prim.Native.Nat.{ℕ, suc, ◌+◌, ◌<◌, ◌≤◌}
use mathlib.Core.Path.{◌≡◌, refl, sym, ◌∙◌}
use mathlib.Core.Bool.{Bool, true, false, cond}
use mathlib.Core.List.{List, [], ◌∷◌, ◌++◌, map}
use mathlib.Core.Logic.{◌⊎◌, inl, inr, ⊎_elim}
use native.Mathlib.Nat.{not-suc-le-zero}
use native.Mathlib.Omega.{arith}
use lib.ListN.{length, get_or, set, drop, length-set}
use lib.Seq.{get_or-set_same, get_or-set_other, drop-set-lt}
use borrow.Author.Tests.{eq-eqb, ne_eqb}
use Rattle.std.specs.List.{All, Contains}
use Rattle.std.proofs.lemmas.List.{length_push, map-set}
use Rattle.std.proofs.lemmas.List.Elements.{All-nil, All-push, All-weaker, All-contains, Contains-get_or, Contains-append_left, Contains-push, Contains-push_cases}
use Rattle.base_bounded.proofs.Bools.{clash, decided, eq_or_not, lt_or_le, no_test}
use Rattle.base_bounded.proofs.Quantifiers.{tally_none, tally_more, tally_skip}
use Rattle.base_outputs.specs.Output.{on_front}
use Rattle.graph.specs.Hops.{count, from, label, to}
use Rattle.mark_confluence.specs.Rounds.{closes, survives}
use Rattle.mark_confluence.specs.Internal.Rounds.{closes_at}
use Rattle.mark_confluence.specs.Internal.MarkSet.{is_marked, mark_set}
use Rattle.mark_confluence.specs.Marks.{mark_of, marks_of}
use Rattle.mark_confluence.proofs.Rounds.{survives_silent}
use Rattle.mark_confluence.proofs.Marks.{marks_at, marks_beyond, marks_made_lem, mark_set_set}
use Rattle.mark_worklist.specs.Tests.{still_marked, tested_in}
use Rattle.mark_worklist.proofs.Tests.{survives_closes, survives_yes, still_marked_yes, still_marked_silent, still_marked_survives, still_marked_falls, tested_still_marked, untested_survives}
use Rattle.mark_worklist_push.specs.Internal.Queue.{is_set}
use Rattle.mark_worklist_push.proofs.Pushing.{flag_yes, flag_no}
use Rattle.mark_worklist_round.specs.Internal.Round.{Enumerates, DirtyStates, Tested, Cleared, Unmarked, FallsIn, FallenIn}

-- listing the silent hops: a place comes behind the list if it passes
module _ (p : ℕ → Bool) where
  abbrev Passed : ℕ → ℕ → Type 0
  Passed i j = (j < i) × (p j ≡ true)

  pub lists_none : Enumerates 0 p []
  lists_none = record { counted = sym (tally_none p); each = All-nil _; all = λ i l e. absurd (not-suc-le-zero l) }

  module _ {i : ℕ} {qs : List ℕ} (s : Enumerates i p qs) where
    wider : All (Passed (i + 1)) qs
    wider k d l = let (a, b) = s.each k d l in (omega arith, b)

    pub lists_more : p i ≡ true → Enumerates (i + 1) p (qs ++ i ∷ [])
    lists_more e = record {
      counted = length_push qs i ∙ tally_more p i s.counted e;
      each = All-push (Passed (i + 1)) qs i wider (omega arith, e);
      all = λ j m q. ⊎_elim (λ h. Contains-append_left qs (i ∷ []) j (s.all j h q)) (λ h. let d : j ≡ i = omega arith in rw d (Contains-push qs i)) (lt_or_le j i);
    }

    pub lists_skip : p i ≡ false → Enumerates (i + 1) p qs
    lists_skip e = record {
      counted = tally_skip p i s.counted e;
      each = wider;
      all = λ j m q. ⊎_elim (λ h. s.all j h q) (λ h. let d : j ≡ i = omega arith in clash (rw d at q) e) (lt_or_le j i);
    }

-- the states that hops fell from
pub dirty_none : (hs : List ℕ) (sh : List Bool) → DirtyStates hs [] sh
unfolding DirtyStates
dirty_none hs sh = All-nil _

pub dirty_more : (hs fl : List ℕ) (p : ℕ) {s : ℕ} (sh : List Bool) → DirtyStates hs fl sh → s ≡ from hs p → s < length sh → DirtyStates hs (fl ++ p ∷ []) (set sh s true)
unfolding DirtyStates
dirty_more hs fl p {s} sh f e l =
    All-push (Flagged (set sh s true)) fl p (All-weaker (Flagged sh) (Flagged (set sh s true)) kept fl f) (rw (sym e) (get_or-set_same sh s true false l)) where
      Flagged : List Bool → ℕ → Type 0
      Flagged ss q = is_set ss (from hs q) ≡ true

      kept : (q : ℕ) → Flagged sh q → Flagged (set sh s true) q
      kept q g =
          ⊎_elim (λ d. rw d (get_or-set_same sh s true false l)) (λ d. get_or-set_other sh s (from hs q) true false d ∙ g) (eq_or_not (from hs q) s)

-- testing: a hop of the queue is tested, and listed unless it closes
module _ (hs ms : List ℕ) where
  abbrev Failed : List ℕ → ℕ → Type 0
  Failed qs j = Contains qs j × (closes_at hs (mark_set hs ms) j ≡ false)

  pub tested_none : Tested hs ms [] []
  tested_none = record { each = All-nil _; all = λ i c e. c }

  module _ (qs : List ℕ) (i : ℕ) {fl : List ℕ} (t : Tested hs ms qs fl) where
    failed : All (Failed (qs ++ i ∷ [])) fl
    failed =
        All-weaker (Failed qs) (Failed (qs ++ i ∷ [])) (λ j h. (Contains-append_left qs (i ∷ []) j h.0, h.1)) fl t.each

    pub tested_kept : true ≡ closes_at hs (mark_set hs ms) i → Tested hs ms (qs ++ i ∷ []) fl
    tested_kept e = record {
      each = failed;
      all = λ j a n. ⊎_elim (λ b. t.all j b n) (λ b. clash (sym e) (rw (← b) at n)) (Contains-push_cases qs i j a);
    }

    pub tested_lost : false ≡ closes_at hs (mark_set hs ms) i → Tested hs ms (qs ++ i ∷ []) (fl ++ i ∷ [])
    tested_lost e = record {
      each = All-push (Failed (qs ++ i ∷ [])) fl i failed (Contains-push qs i, sym e);
      all = λ j a n. ⊎_elim (λ b. Contains-append_left fl (i ∷ []) j (t.all j b n)) (λ b. rw (← b) (Contains-push fl i)) (Contains-push_cases qs i j a);
    }

-- clearing the flags of what is tested
pub cleared_none : (hs : List ℕ) (old : List Bool) → count hs ≤ length old → Cleared hs [] old old
cleared_none hs old l = record { flags = l; taken = λ i c. absurd (not-suc-le-zero c.1); kept = λ i e. e }

module _ (hs qs : List ℕ) (old : List Bool) where
  pub cleared_more : {i : ℕ} {new : List Bool} → Cleared hs qs old new → i < count hs → Cleared hs (qs ++ i ∷ []) old (set new i false)
  cleared_more {i} {new} t l = record { flags = simp length-set t.flags; taken = taken; kept = kept } where
    off_here : is_set (set new i false) i ≡ false
    off_here = get_or-set_same new i false false (omega (arith, t.flags))

    taken : (j : ℕ) → Contains (qs ++ i ∷ []) j → is_set (set new i false) j ≡ false
    taken j a = go (eq_or_not j i) (Contains-push_cases qs i j a) where
      go : (j ≡ i) ⊎ (j ≡ i → ⊥) → Contains qs j ⊎ (i ≡ j) → is_set (set new i false) j ≡ false
      go (inl d) b = rw d off_here
      go (inr d) (inl b) = get_or-set_other new i j false false d ∙ t.taken j b
      go (inr d) (inr b) = absurd (d (sym b))

    kept : (j : ℕ) → is_set (set new i false) j ≡ true → is_set old j ≡ true
    kept j e = ⊎_elim (λ d. clash (rw d at e) off_here) (λ d. t.kept j (sym (get_or-set_other new i j false false d) ∙ e)) (eq_or_not j i)

-- the same of a table of flags
module _ (hs qs : List ℕ) (A : Type 0) (raised : A → Bool) (old : List A) where
  pub cleared_flag : (new : List A) {i : ℕ} {x : A} → Cleared hs qs (map raised old) (map raised new) → i < count hs → raised x ≡ false →
      Cleared hs (qs ++ i ∷ []) (map raised old) (map raised (set new i x))
  cleared_flag new {i} {x} t l e = rw (map-set raised new i x, e) (cleared_more hs qs (map raised old) t l)

-- taking marks
module _ (ms : List ℕ) where
  pub unmarked_none : Unmarked ms [] ms
  unmarked_none = record { taken = λ i c. absurd (not-suc-le-zero c.1); other = λ i n. refl; beyond = λ c f. refl }

  pub unmarked_more : (fl : List ℕ) {i : ℕ} {new : List ℕ} → Unmarked ms fl new → i < length new → Unmarked ms (fl ++ i ∷ []) (set new i 0)
  unmarked_more fl {i} {new} t l = record { taken = taken; other = other; beyond = beyond } where
    taken : (j : ℕ) → Contains (fl ++ i ∷ []) j → get_or (set new i 0) j 0 ≡ 0
    taken j a = go (eq_or_not j i) (Contains-push_cases fl i j a) where
      go : (j ≡ i) ⊎ (j ≡ i → ⊥) → Contains fl j ⊎ (i ≡ j) → get_or (set new i 0) j 0 ≡ 0
      go (inl d) b = rw d (get_or-set_same new i 0 0 l)
      go (inr d) (inl b) = get_or-set_other new i j 0 0 d ∙ t.taken j b
      go (inr d) (inr b) = absurd (d (sym b))

    other : (j : ℕ) → (Contains (fl ++ i ∷ []) j → ⊥) → get_or (set new i 0) j 0 ≡ get_or ms j 0
    other j n =
        get_or-set_other new i j 0 0 (λ d. n (rw d (Contains-push fl i))) ∙ t.other j (λ a. n (Contains-append_left fl (i ∷ []) j a))

    beyond : (c : ℕ) → All (λ p. p < c) (fl ++ i ∷ []) → drop c (set new i 0) ≡ drop c ms
    beyond c f =
        drop-set-lt c new i 0 (All-contains (λ p. p < c) (fl ++ i ∷ []) i f (Contains-push fl i))
        ∙ t.beyond c (λ k d m. All-contains (λ p. p < c) (fl ++ i ∷ []) (get_or fl k d) f (Contains-append_left fl (i ∷ []) (get_or fl k d) (Contains-get_or fl k d m)))

module _ (hs : List ℕ) where
  -- the mark of a hop, where the marks are those of the hops that survive k rounds
  module _ (k : ℕ) (ms out : List ℕ) (e : ms ≡ on_front (marks_of hs (survives hs k)) out) where
    pub mark_is : {i : ℕ} → i < count hs → get_or ms i 0 ≡ cond (still_marked hs k i) 1 0
    unfolding mark_of still_marked
    mark_is l = marks_at hs (survives hs k) ms out e l

    pub mark_test : {i : ℕ} → i < count hs → is_marked ms i ≡ still_marked hs k i
    mark_test {i} l = go (still_marked hs k i) (mark_is l) where
      go : (b : Bool) → get_or ms i 0 ≡ cond b 1 0 → is_marked ms i ≡ b
      go true d = flag_yes ms i d
      go false d = flag_no ms i (λ q. absurd (omega arith))

    pub held_survives : mark_set hs ms ≡ survives hs k
    held_survives = mark_set_set hs (survives hs k) ms out e (survives_silent hs k)

    -- what is tested and does not close falls
    module _ (qs : List ℕ) (d : Enumerates (count hs) (tested_in hs k) qs) {fl : List ℕ} (t : Tested hs ms qs fl) where
      closes_is : (i : ℕ) → closes_at hs (mark_set hs ms) i ≡ closes hs (survives hs k) (from hs i) (to hs i)
      closes_is i = rw held_survives

      falls : (p : ℕ) → Failed hs ms qs p → FallsIn hs k p
      falls p (c, e) =
          let (l, y) = All-contains (Passed (tested_in hs k) (count hs)) qs p d.each c in (
            l,
            tested_still_marked hs k p l y,
            no_test (still_marked hs (suc k) p)
                (λ s. clash (survives_closes hs k (from hs p) (to hs p) (still_marked_survives hs (suc k) p s)) (sym (closes_is p) ∙ e)),
          )

      pub falls_all : FallenIn hs k fl
      falls_all = record { each = All-weaker (Failed hs ms qs) (FallsIn hs k) falls fl t.each; all = all } where
        all : (i : ℕ) → FallsIn hs k i → Contains fl i
        all i (l, s, f) =
            t.all i (d.all i l (⊎_elim (λ h. h) (λ h. clash (untested_survives hs k i s h) f) (decided (tested_in hs k i))))
            (closes_is i ∙ no_test (closes hs (survives hs k) (from hs i) (to hs i))
            (λ c. clash (still_marked_yes hs (suc k) i (still_marked_silent hs k i s) (survives_yes hs k (from hs i) (to hs i) (survives_silent hs k (from hs i) (to hs i) (still_marked_survives hs k i s)) c)) f))

    -- and without the marks of what fell, the marks are those of the next round
    pub marks_next : {fl new : List ℕ} → count hs ≤ length new → FallenIn hs k fl → Unmarked ms fl new → new ≡ on_front (marks_of hs (survives hs (suc k))) out
    unfolding mark_of still_marked
    marks_next {fl} {new} capacity f t =
        marks_made_lem hs (survives hs (suc k)) new out capacity at_place (t.beyond (count hs) (λ q d m. (f.each q d m).0) ∙ marks_beyond hs (survives hs k) ms out e) where
          at_place : (i : ℕ) → i < count hs → get_or new i 0 ≡ mark_of hs (survives hs (suc k)) i
          at_place i l = go (decided (still_marked hs (suc k) i)) (decided (still_marked hs k i)) where
            go : (still_marked hs (suc k) i ≡ true) ⊎ (still_marked hs (suc k) i ≡ false) → (still_marked hs k i ≡ true) ⊎ (still_marked hs k i ≡ false) →
                get_or new i 0 ≡ cond (still_marked hs (suc k) i) 1 0
            go (inl a) b =
                rw a (t.other i (λ c. clash a (All-contains (FallsIn hs k) fl i f.each c).2) ∙ (mark_is l ∙ (rw (still_marked_falls hs k i a))))
            go (inr a) (inl b) = rw a (t.taken i (f.all i (l, b, a)))
            go (inr a) (inr b) = rw a (t.other i (λ c. clash (All-contains (FallsIn hs k) fl i f.each c).1 b) ∙ (mark_is l ∙ (rw b)))

  -- the first round tests the silent hops
  pub first_yes : (i : ℕ) {a : ℕ} → a ≡ label hs i → a ≡ 0 → tested_in hs 0 i ≡ true
  unfolding tested_in
  first_yes i e z = eq-eqb (label hs i) 0 (sym e ∙ z)

  pub first_no : (i : ℕ) {a : ℕ} → a ≡ label hs i → (a ≡ 0 → ⊥) → tested_in hs 0 i ≡ false
  unfolding tested_in
  first_no i e n = ne_eqb (label hs i) 0 (λ z. n (e ∙ z))
