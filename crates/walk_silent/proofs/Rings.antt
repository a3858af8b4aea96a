-- What the answer of row 5 says of rings; and without rings, a rank that falls along every silent
-- hop: the number of states that a state leads to. Assumes nothing.
use Prim.Native.Nat.{ℕ, ◌<◌, ◌≤◌}
use mathlib.Core.Path.{◌≡◌, refl}
use mathlib.Core.Bool.{Bool, true, false, cond, ◌&&◌}
use mathlib.Core.List.{List}
use mathlib.Core.Logic.{⊎_elim, ◌↔◌}
use native.Mathlib.Omega.{arith}
use borrow.Author.Tests.{ltb-false, le-ltb}
use lib.Dec.{ltb}
use Rattle.base_bounded.specs.Quantifiers.{tally}
use Rattle.graph.specs.Hops.{count, to, labelled}
use Rattle.graph.specs.Answers.{refused, accepted}
use Rattle.graph_check.specs.Check.{InRange}
use Rattle.graph.specs.declared.Shape.{Shape}
use Rattle.base_bounded.proofs.Bools.{clash, and_left, and_right, and_yes, no_test, lt_or_le}
use Rattle.base_bounded.proofs.Quantifiers.{any_at, any_found, least_passes, least_before, least_is, tally_less}
use Rattle.lts.specs.Star.{go}
use Rattle.walk_silent.specs.Silent.{SilentOf, OnRing, leads, on_ring, lowest_on_ring, ring_answer}
use Rattle.walk_silent.proofs.Hops.{silent_here, silent_place_lem, silent_start}
use Rattle.walk_silent.proofs.Leads.{leads_self, leads_walk, walk_leads}

-- the hop at place i, and a way back
abbrev back : List ℕ → ℕ → ℕ → ℕ → Bool
back hs n s i = labelled hs s 0 i && leads hs n (to hs i) s

pub ring_walk : (hs : List ℕ) (n s : ℕ) → on_ring hs n s ≡ true → OnRing hs s
unfolding on_ring
ring_walk hs n s h =
    let (i, l, e) = any_at (back hs n s) (count hs) h in (
      to hs i,
      silent_here hs s i l (and_left (labelled hs s 0 i) (leads hs n (to hs i) s) e),
      leads_walk hs n (to hs i) s (and_right (labelled hs s 0 i) (leads hs n (to hs i) s) e),
    )

module _ {sh : Shape} {hs : List ℕ} (ranged : InRange sh hs) where
  pub walk_ring : (s : ℕ) → OnRing hs s → on_ring hs sh.states s ≡ true
  unfolding on_ring
  walk_ring s (t, r, w) =
      let (i, l, e, q) = silent_place_lem hs s t r in
      any_found (back hs sh.states s) (count hs) l (and_yes e (rw q (walk_leads ranged w)))

  pub on_ring_iff : (s : ℕ) → (on_ring hs sh.states s ≡ true) ↔ OnRing hs s
  on_ring_iff s = (ring_walk hs sh.states s, walk_ring s)

  ring_start : (s : ℕ) → OnRing hs s → s < sh.states
  ring_start s (t, r, w) = silent_start ranged s t r

  pub no_ring_test : (s : ℕ) → (OnRing hs s → ⊥) → on_ring hs sh.states s ≡ false
  no_ring_test s f = no_test _ (λ e. f (ring_walk hs sh.states s e))

  -- `lowest_on_ring`, if it is a state, is on a ring
  pub lowest_on_ring_lem : lowest_on_ring sh hs < sh.states → OnRing hs (lowest_on_ring sh hs)
  unfolding lowest_on_ring
  lowest_on_ring_lem l = ring_walk hs sh.states _ (least_passes (on_ring hs sh.states) sh.states l)

  -- and no lower one is
  pub none_lower : (s : ℕ) → s < lowest_on_ring sh hs → OnRing hs s → ⊥
  unfolding lowest_on_ring
  none_lower s l w = clash (walk_ring s w) (least_before (on_ring hs sh.states) sh.states l)

  -- if it is not, no state is
  pub no_ring : sh.states ≤ lowest_on_ring sh hs → (s : ℕ) → OnRing hs s → ⊥
  no_ring l s w = none_lower s (let h : s < sh.states = ring_start s w in omega arith) w

  -- the two together: what to show of a number to show that it is the lowest on a ring, or the
  -- state count
  pub lowest_is : (r : ℕ) → r ≤ sh.states → ((j : ℕ) → j < r → OnRing hs j → ⊥) → (r < sh.states → OnRing hs r) → lowest_on_ring sh hs ≡ r
  unfolding lowest_on_ring
  lowest_is r h f g =
      least_is (on_ring hs sh.states) sh.states r h (λ j l. no_ring_test j (f j l)) (λ l. walk_ring r (g l))

  -- row 5 lets a graph pass exactly where no state is on a ring
  pub ring_answer_iff : ((ring_answer sh hs).number ≡ 0) ↔ ((s : ℕ) → OnRing hs s → ⊥)
  unfolding ring_answer
  ring_answer_iff = (fore (ltb (lowest_on_ring sh hs) sh.states) refl, back_way) where
    fore : (x : Bool) → ltb (lowest_on_ring sh hs) sh.states ≡ x → (cond x (refused 5 (lowest_on_ring sh hs)) accepted).number ≡ 0 →
        (s : ℕ) → OnRing hs s → ⊥
    fore true e z = absurd (omega arith)
    fore false e z = no_ring (ltb-false _ _ e)

    back_way : ((s : ℕ) → OnRing hs s → ⊥) → (cond (ltb (lowest_on_ring sh hs) sh.states) (refused 5 (lowest_on_ring sh hs)) accepted).number ≡ 0
    back_way f =
        ⊎_elim (λ l. absurd (f _ (lowest_on_ring_lem l))) (λ l. rw (le-ltb (lowest_on_ring sh hs) sh.states l)) (lt_or_le (lowest_on_ring sh hs) sh.states)

-- how many states s leads to
unfoldable pub rank : Shape → List ℕ → ℕ → ℕ
rank sh hs s = tally sh.states (leads hs sh.states s)

-- without rings the rank falls along every silent hop
pub rank_falls : {sh : Shape} {hs : List ℕ} → InRange sh hs → ((s : ℕ) → OnRing hs s → ⊥) → (s t : ℕ) → SilentOf hs s t → rank sh hs t < rank sh hs s
unfolding rank
rank_falls {sh} {hs} ranged none s t r =
    tally_less (leads hs sh.states t) (leads hs sh.states s) sh.states
    (λ u l e. walk_leads ranged (go r (leads_walk hs sh.states t u e)))
    (silent_start ranged s t r)
    (no_test _ (λ e. none s (t, r, leads_walk hs sh.states t s e)))
    (leads_self hs sh.states s)

-- the same from the answer of row 5
pub rank_falls_accepted : {sh : Shape} {hs : List ℕ} → InRange sh hs → (ring_answer sh hs).number ≡ 0 → (s t : ℕ) → SilentOf hs s t → rank sh hs t < rank sh hs s
rank_falls_accepted ranged e = rank_falls ranged ((ring_answer_iff ranged).0 e)
