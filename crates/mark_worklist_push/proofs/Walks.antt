-- Walks that push what each of their steps pushes: over the hops into a state, over the silent hops
-- of one, over the hops that fell; and that together they push the sets of the contracts. Assumes
-- nothing.
use Rattle.std.proofs.Common.{Result, Ok, Err}
use Prim.Native.Nat.{ℕ, ◌+◌, ◌-◌, ◌<◌, ◌≤◌}
use mathlib.Core.Path.{◌≡◌, refl, sym, ap, subst, ◌∙◌}
use mathlib.Core.Bool.{Bool, true, false}
use mathlib.Core.List.{List, [], ◌∷◌, ◌++◌}
use mathlib.Core.Logic.{◌⊎◌, inl, inr, ⊎_elim}
use native.Mathlib.Omega.{arith}
use lib.ListN.{length, get_or, take, drop, length-drop}
use lib.Seq.{get_or-take, get_or-drop, length-take-le}
use Rattle.std.specs.List.{All, Contains}
use Rattle.std.proofs.lemmas.List.Elements.{All-from_get_or, All-contains, Contains-get_or, Contains-push, Contains-append_left, Contains-push_cases}
use Rattle.base_bounded.specs.Internal.Slots.{slot}
use Rattle.base_bounded.proofs.Bools.{clash, lt_or_le}
use Rattle.base_bounded.proofs.Slots.{slot_in}
use Rattle.graph.specs.Hops.{count, from, label, to, hop_of, is, has}
use Rattle.graph.specs.Order.{Ascending}
use Rattle.graph.specs.Internal.Search.{placed, labelled_from, labelled_past}
use Rattle.graph.specs.Search.{first_of}
use Rattle.graph.specs.declared.Hop.{Hop}
use Rattle.graph.proofs.Places.{has_at, has_place, place_has, is_yes, is_from, is_label, is_to, labelled_yes, labelled_parts}
use Rattle.graph.proofs.Lookup.{at_place, gap_has, one_place}
use Rattle.graph_successors.proofs.Rows.{labelled_holds, labelled_only, silent_first}
use Rattle.graph.specs.Answers.{most_states}
use Rattle.graph_predecessors.specs.Internal.PredecessorIndex.{predecessor_start, PredecessorStarts, PredecessorPlaces}
use Rattle.graph_predecessors.proofs.PredecessorIndex.{place_in}
use Rattle.mark_confluence.specs.Rounds.{FirstPoint}
use Rattle.mark_worklist_push.specs.declared.Worklist.{Worklist}
use Rattle.mark_worklist_push.specs.Internal.Queue.{PlacesInto, is_set, Leaving, Queue, Wanted, Pushed, OnlyPlace, Joining, Like, AnsweredTo, Trying, Asked, DecidesPoint, ClosedBy}
use Rattle.mark_worklist_push.proofs.Pushing.{flag_says, pushed_none, pushed_then, pushed_same}

-- what the steps from lo on and before k push, if step y pushes X y
abbrev pub Walked : (ℕ → ℕ → Type 0) → ℕ → ℕ → ℕ → Type 0
Walked X lo k x = (y : ℕ) × (lo ≤ y) × (y < k) × X y x

module _ (hs ms : List ℕ) (X : ℕ → ℕ → Type 0) where
  module _ {old mid : Worklist} {lo k : ℕ} (l : lo ≤ k) (g : Pushed hs ms (Walked X lo k) old mid) where
    less : (x : ℕ) → Walked X lo k x → Walked X lo (k + 1) x
    less x (y, a, b, w) = (y, a, omega arith, w)

    more : (x : ℕ) → Walked X lo (k + 1) x → Walked X lo k x ⊎ X k x
    more x (y, a, b, w) = ⊎_elim (λ m. inl (y, a, m, w)) (λ m. let e : y ≡ k = omega arith in inr (rw e at w)) (lt_or_le y k)

    -- the step at k pushes its own
    pub walk_more : {new : Worklist} → Pushed hs ms (X k) mid new → Pushed hs ms (Walked X lo (k + 1)) old new
    walk_more h = pushed_then hs ms g h less (λ x w. (k, l, omega arith, w)) (λ x w. more x w.inside)

-- what the steps push, one for each of ks, if that for k pushes X k
abbrev pub Over : (ℕ → ℕ → Type 0) → List ℕ → ℕ → Type 0
Over X ks x = (k : ℕ) × Contains ks k × X k x

module _ (hs ms : List ℕ) (X : ℕ → ℕ → Type 0) where
  -- none so far, and one more
  pub over_none : {w : Worklist} → Queue hs w → Pushed hs ms (Over X []) w w
  over_none c = pushed_none hs ms c (λ x l w. let (k, (i, m, e), v) = w.inside in absurd (omega arith))

  pub over_more : (ks : List ℕ) (k : ℕ) {old mid new : Worklist} → Pushed hs ms (Over X ks) old mid → Pushed hs ms (X k) mid new →
      Pushed hs ms (Over X (ks ++ k ∷ [])) old new
  over_more ks k g h =
      pushed_then hs ms g h (λ x (q, c, w). (q, Contains-append_left ks (k ∷ []) q c, w)) (λ x w. (k, Contains-push ks k, w)) parts where
        parts : (x : ℕ) → Wanted hs ms (Over X (ks ++ k ∷ [])) x → Over X ks x ⊎ X k x
        parts x w =
            let (q, c, v) = w.inside in
            ⊎_elim (λ b. inl (q, b, v)) (λ e. inr (rw e v)) (Contains-push_cases ks k q c)

module _ (hs ms : List ℕ) where
  -- the silent hop from s1 to s2, as the search finds it
  module _ (up : Ascending hs) (s1 s2 : ℕ) {h : Hop} {f : Result ℕ ℕ} (q : h ≡ hop_of s1 0 s2) (e : f ≡ placed hs h) where
    pub pair_gap : {w : Worklist} {p : ℕ} → f ≡ Err p → Queue hs w → Pushed hs ms (Joining hs s1 s2) w w
    pair_gap {w} {p} d c = pushed_none hs ms c none where
      gap : placed hs (hop_of s1 0 s2) ≡ Err p
      gap = rw q at (sym e ∙ d)

      none : (i : ℕ) → i < count hs → Wanted hs ms (Joining hs s1 s2) i → is_set w.flags.now i ≡ true
      none i l x = clash (rw (x.inside.0, x.silent, x.inside.1) at (has_at hs l)) (gap_has hs (hop_of s1 0 s2) up gap)

    module _ {i : ℕ} (d : f ≡ Ok i) where
      there : (i < count hs) × (is hs s1 0 s2 i ≡ true)
      there = let found : placed hs (hop_of s1 0 s2) ≡ Ok i = rw q at (sym e ∙ d) in at_place hs (hop_of s1 0 s2) found

      pub pair_there : (i < count hs) × (label hs i ≡ 0)
      pair_there = (there.0, is_label hs s1 0 s2 i there.1)

      pub pair_at : {old new : Worklist} → Pushed hs ms (OnlyPlace i) old new → Pushed hs ms (Joining hs s1 s2) old new
      pair_at g =
          pushed_same hs ms g (λ x w. rw w (is_from hs s1 0 s2 i there.1, is_to hs s1 0 s2 i there.1))
          (λ x l w. one_place hs up s1 0 s2 l there.0 (is_yes hs s1 0 s2 x w.inside.0 w.silent w.inside.1) there.1)

  -- over the hops into s4, the end of the hop at place p: those of the label of the hop at place j
  pub into_all : (j p : ℕ) {ks : List ℕ} → PlacesInto hs (to hs p) ks → {old new : Worklist} →
      Pushed hs ms (Over (Like hs j) ks) old new → Pushed hs ms (AnsweredTo hs j p) old new
  into_all j p {ks} t g = pushed_same hs ms g on (λ x m w. back x w.inside) where
    on : (x : ℕ) → Over (Like hs j) ks x → AnsweredTo hs j p x
    on x (k, c, (e, (f, h))) =
        let (m, z) = All-contains (λ y. (y < count hs) × (to hs y ≡ to hs p)) ks k t.each c in
        (f, place_has hs (to hs x) (label hs j) (to hs p) (record { at = k; within = m; from_is = sym h; label_is = e; to_is = z }))

    back : (x : ℕ) → AnsweredTo hs j p x → Over (Like hs j) ks x
    back x (f, h) =
        let q = has_place hs (to hs x) (label hs j) (to hs p) h in
        (q.at, t.all q.at q.within q.to_is, (q.label_is, (f, sym q.from_is)))

  -- for the hop to try at place j, with s4 itself where it is silent
  module _ (j p : ℕ) where
    -- over the silent hops of s1, which the hop at place j leaves: the one at place i
    module _ (i : ℕ) where
      pub asked_off : {w : Worklist} → (get_or ms i 0 ≡ 1 → ⊥) → Queue hs w → Pushed hs ms (Asked hs j p i) w w
      asked_off f c = pushed_none hs ms c (λ x l w. let e = w.inside.0 in absurd (f (flag_says ms i (rw e at w.marked))))

      pub asked_again : {w : Worklist} → is_set w.flags.now i ≡ true → Queue hs w → Pushed hs ms (Asked hs j p i) w w
      asked_again f c = pushed_none hs ms c (λ x l w. rw w.inside.0 f)

    pub out_all : Ascending hs → {lo hi k : ℕ} → lo ≡ first_of hs (from hs j) → hi ≡ labelled_past hs (from hs j) 0 → hi ≤ k → k ≤ hi →
        {old new : Worklist} → Pushed hs ms (Walked (Asked hs j p) lo k) old new → Pushed hs ms (Trying hs j p) old new
    out_all up {lo} {hi} {k} a b u v g = pushed_same hs ms g on back where
      on : (x : ℕ) → Walked (Asked hs j p) lo k x → Trying hs j p x
      on x (y, c, d, (e, f)) =
          let m : labelled_from hs (from hs j) 0 ≤ x = omega (arith, silent_first hs (from hs j)) in
          let w : x < labelled_past hs (from hs j) 0 = omega arith in
          ((labelled_parts hs (from hs j) 0 x (labelled_only hs up (from hs j) 0 m w).1).0, f)

      back : (x : ℕ) → x < count hs → Wanted hs ms (Trying hs j p) x → Walked (Asked hs j p) lo k x
      back x l w =
          let (c, d) = labelled_holds hs up (from hs j) 0 l (labelled_yes hs (from hs j) 0 x w.inside.0 w.silent) in
          (x, omega (arith, silent_first hs (from hs j)), omega arith, (refl, w.inside.1))

    -- where no marked hop leaves s1
    pub trying_none : (ls : List Bool) {s : ℕ} → Leaving hs ms ls → s ≡ from hs j → is_set ls s ≡ false → {w : Worklist} → Queue hs w → Pushed hs ms (Trying hs j p) w w
    unfolding Leaving
    trying_none ls {s} f e n c =
        pushed_none hs ms c (λ x l w. clash (rw (e ∙ sym w.inside.0) (f x l w.marked)) n)

  -- over the hops into s3, where the hop at place p begins
  pub tries_all : (p : ℕ) {ks : List ℕ} → PlacesInto hs (from hs p) ks → {old new : Worklist} →
      Pushed hs ms (Over (λ j. Trying hs j p) ks) old new → Pushed hs ms (ClosedBy hs p) old new
  tries_all p {ks} t g = pushed_same hs ms g on (λ x m w. back x w.inside) where
    on : (x : ℕ) → Over (λ j. Trying hs j p) ks x → ClosedBy hs p x
    on x (j, c, (e, f)) =
        let (m, z) = All-contains (λ y. (y < count hs) × (to hs y ≡ from hs p)) ks j t.each c in
        (label hs j, place_has hs (from hs x) (label hs j) (from hs p) (record { at = j; within = m; from_is = sym e; label_is = refl; to_is = z }), f)

    back : (x : ℕ) → ClosedBy hs p x → Over (λ j. Trying hs j p) ks x
    back x (a, h, f) =
        let q = has_place hs (from hs x) a (from hs p) h in
        (q.at, t.all q.at q.within q.to_is, rw q.label_is (sym q.from_is, f))

-- document 01's first point, where s4 is not s2 itself: r is whether s2 has the hop
pub point_is : (hs : List ℕ) (s2 a s4 : ℕ) {r : Bool} → r ≡ has hs s2 a s4 → (a ≡ 0 → s4 ≡ s2 → ⊥) → DecidesPoint hs s2 a s4 r
point_is hs s2 a s4 {r} e n = record { yes = λ d. inl (sym e ∙ d); no = none } where
  none : r ≡ false → FirstPoint hs s2 a s4 → ⊥
  none d (inl g) = clash g (sym e ∙ d)
  none d (inr (z, g)) = n z g

-- where the hops into a state begin, as the table says it
pub begin_is : (hs bs : List ℕ) → PredecessorStarts hs bs → {x r : ℕ} (y : ℕ) → x ≡ y → y ≤ most_states → r ≡ get_or bs x 0 → r ≡ predecessor_start hs y
unfolding PredecessorStarts
begin_is hs bs t y q l e = e ∙ (rw q (t y l))

-- the part of the table from where the hops into s begin to where those into the next state do
module _ (hs ps : List ℕ) (f : PredecessorPlaces hs (count hs) ps) (s : ℕ) {lo hi : ℕ} (a : lo ≡ predecessor_start hs s) (b : hi ≡ predecessor_start hs (s + 1)) (l : hi ≤ length ps) where
  abbrev part : List ℕ
  part = take (hi - lo) (drop lo ps)

  long : length part ≡ hi - lo
  long = length-take-le (hi - lo) (drop lo ps) (omega (arith, length-drop lo ps, l))

  part_at : (i : ℕ) → i < hi - lo → get_or part i 0 ≡ get_or ps (lo + i) 0
  part_at i m = get_or-take (hi - lo) (drop lo ps) i 0 m ∙ get_or-drop lo ps i 0

  -- what stands in the table at y stands in it
  at_slot : (k y : ℕ) → lo ≤ y → y < hi → get_or ps y 0 ≡ k → Contains part k
  at_slot k y c d q =
      let e : lo + (y - lo) ≡ y = omega arith in
      let m : y - lo < hi - lo = omega arith in
      subst (Contains part) (part_at (y - lo) m ∙ ap (λ z. get_or ps z 0) e ∙ q) (Contains-get_or part (y - lo) 0 (omega (arith, long)))

  -- it holds the places of the hops into s
  pub places_into : PlacesInto hs s part
  unfolding PredecessorPlaces
  places_into = record { each = each; all = all } where
    each : All (λ k. (k < count hs) × (to hs k ≡ s)) part
    each = All-from_get_or (λ k. (k < count hs) × (to hs k ≡ s)) part 0 (λ i m.
        let n : i < hi - lo = omega (arith, long) in
        rw (part_at i n) (place_in hs ps f s {k = lo + i} (omega (arith, a)) (omega (arith, a, b))))

    all : (k : ℕ) → k < count hs → to hs k ≡ s → Contains part k
    all k m e =
        let (c, d) = slot_in (to hs) (count hs) m in
        at_slot k (slot (to hs) (count hs) k) (omega (arith, a, rw e at c)) (omega (arith, b, rw e at d)) (f k m)
