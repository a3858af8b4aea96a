-- Laws of ranking: a state whose silent hops all lead to states on no ring is on no ring, so that
-- ranking keeps ranked states off rings; and where all states are ranked there is none. Assumes
-- nothing.
use Prim.Native.Nat.{ℕ, ◌+◌, ◌<◌, ◌≤◌}
use mathlib.Core.Path.{◌≡◌, refl, sym, ap, ◌∙◌}
use mathlib.Core.Bool.{Bool, true, false, not, ◌||◌}
use mathlib.Core.List.{List}
use mathlib.Core.Logic.{◌⊎◌, inl, inr, ⊎_elim}
use native.Mathlib.Omega.{arith}
use borrow.Author.Tests.{not-true}
use lib.ListN.{length, set, replicate, get_or-replicate}
use Rattle.graph.specs.Hops.{count, label, to, labelled}
use Rattle.graph.specs.Order.{Ascending}
use Rattle.graph.specs.Search.{first_of, past_of}
use Rattle.graph.specs.Internal.Search.{labelled_past}
use Rattle.graph_check.specs.Check.{InRange}
use Rattle.base_bounded.specs.Quantifiers.{tally}
use Rattle.graph.specs.declared.Shape.{Shape}
use Rattle.base_bounded.proofs.Bools.{clash, decided, lt_or_le, or_left, or_right, or_no, or_yes, not_yes, not_no}
use Rattle.base_bounded.proofs.Quantifiers.{all_at, all_fails, tally_less, tally_within}
use Rattle.graph.proofs.Lookup.{first_within, range_only, all_range}
use Rattle.graph.proofs.Places.{labelled_yes, labelled_parts}
use Rattle.lts.specs.Star.{stay, go}
use Rattle.lts.proofs.Star.{one, join}
use Rattle.walk_silent.specs.Silent.{SilentOf, OnRing, lowest_on_ring}
use Rattle.walk_reach.specs.Internal.Frontier.{visited}
use Rattle.walk_acyclic.specs.Internal.Ranks.{ends_visited, OffRings}
use Rattle.walk_acyclic.specs.Internal.Ranking.{Ranked}
use Rattle.walk_acyclic.specs.declared.Ranking.{Ranking}
use Rattle.graph_successors.proofs.Rows.{labelled_holds, labelled_only, labelled_past_lem, silent_first}
use Rattle.walk_reach.proofs.Frontier.{visited_set, visited_set_same, visited_set_back}
use Rattle.walk_silent.proofs.Hops.{silent_place_lem, silent_end}
use Rattle.walk_silent.proofs.Rings.{lowest_is}

-- a ring through v goes on through the end of a silent hop of v
pub ring_goes_on : (hs : List ℕ) (v : ℕ) → OnRing hs v → (t : ℕ) × SilentOf hs v t × OnRing hs t
ring_goes_on hs v (t, r, stay) = (v, r, (v, r, stay))
ring_goes_on hs v (t, r, go {m} a p) = (t, r, (m, a, join p (one r)))

module _ (hs : List ℕ) (ranked : List Bool) (v : ℕ) where
  -- the hop at place i is no silent one of v, or leads to a visited state
  abbrev fine : ℕ → Bool
  fine i = not (labelled hs v 0 i) || visited ranked (to hs i)

  pub ends_at : ends_visited hs ranked v ≡ true → (t : ℕ) → SilentOf hs v t → visited ranked t ≡ true
  unfolding ends_visited
  ends_at e t r =
      let (i, l, d, q) = silent_place_lem hs v t r in
      ⊎_elim (λ f. clash d (not-true _ f)) (λ f. ap (visited ranked) (sym q) ∙ f) (or_yes (not (labelled hs v 0 i)) (visited ranked (to hs i)) (all_at fine (count hs) e l))

  -- the hops of v, the silent ones first
  module _ (up : Ascending hs) where
    pub ends_fails : (i : ℕ) → first_of hs v ≤ i → i < first_of hs (v + 1) → label hs i ≡ 0 → visited ranked (to hs i) ≡ false → ends_visited hs ranked v ≡ false
    unfolding ends_visited past_of
    ends_fails i l m q e =
        let k : i < count hs = omega (arith, first_within hs up (v + 1)) in
        all_fails fine (count hs) k (or_no (not_yes (labelled_yes hs v 0 i (range_only hs up v k l m) q)) e)

    -- where no silent one stands at i, none stands from there on
    pub ends_all : (i : ℕ) → first_of hs v ≤ i → (i < first_of hs (v + 1) → label hs i ≡ 0 → ⊥) →
        ((j : ℕ) → first_of hs v ≤ j → j < i → visited ranked (to hs j) ≡ true) → ends_visited hs ranked v ≡ true
    unfolding ends_visited past_of
    ends_all i l g f = all_range fine (count hs) (first_of hs v) i (λ j k e. out j k e) (λ j a b. or_right (not (labelled hs v 0 j)) (f j a b)) where
      before : (j : ℕ) → j < labelled_past hs v 0 → j < i
      before j m = go (lt_or_le j i) where
        go : (j < i) ⊎ (i ≤ j) → j < i
        go (inl k) = k
        go (inr k) =
            let (w, d) = labelled_only hs up v 0 {i = i} (omega (arith, silent_first hs v)) (omega arith) in
            absurd (g (omega (arith, labelled_past_lem hs up v 0)) (labelled_parts hs v 0 i d).1)

      out : (j : ℕ) → j < count hs → fine j ≡ false → (first_of hs v ≤ j) × (j < i)
      out j k e = go (decided (labelled hs v 0 j)) where
        go : (labelled hs v 0 j ≡ true) ⊎ (labelled hs v 0 j ≡ false) → (first_of hs v ≤ j) × (j < i)
        go (inl d) = let (a, b) = labelled_holds hs up v 0 k d in (omega (arith, silent_first hs v), before j b)
        go (inr d) = clash (or_left (visited ranked (to hs j)) (not_no d)) e

-- no state is ranked at first
pub off_rings_none : (hs : List ℕ) (n k : ℕ) → n ≤ k → OffRings hs n (replicate k false)
unfolding visited
off_rings_none hs n k h t l e w = clash e (get_or-replicate k t false false (omega arith))

-- one state more is
pub tally_one : (ranked : List Bool) (v n : ℕ) → v < n → n ≤ length ranked → visited ranked v ≡ false →
    tally n (visited ranked) + 1 ≤ tally n (visited (set ranked v true))
tally_one ranked v n l capacity e =
    let within : v < length ranked = omega arith in
    omega (arith, tally_less (visited ranked) (visited (set ranked v true)) n (λ j k f. visited_set ranked v j within f) l e (visited_set_same ranked v within))

module _ {sh : Shape} {hs : List ℕ} (ranged : InRange sh hs) where
  -- v may be ranked
  pub off_rings_one : (ranked : List Bool) (v : ℕ) → OffRings hs sh.states ranked → ends_visited hs ranked v ≡ true → OffRings hs sh.states (set ranked v true)
  off_rings_one ranked v u d t k f = ⊎_elim (u t k) (λ q. rw q off) (visited_set_back ranked v t f) where
    off : OnRing hs v → ⊥
    off w = let (t, r, x) = ring_goes_on hs v w in u t (silent_end ranged v t r) (ends_at hs ranked v d t r) x

  -- all are ranked: no state is on a ring
  pub lowest_none : ((t : ℕ) → t < sh.states → OnRing hs t → ⊥) → sh.states ≡ lowest_on_ring sh hs
  lowest_none f = sym (lowest_is ranged sh.states (omega arith) f (λ l. absurd (omega arith)))

pub ranked_join : {a b c : Ranking} {q r : ℕ} → Ranked a q b → Ranked b r c → Ranked a (q + r) c
ranked_join x y = record { same_graph = y.same_graph ∙ x.same_graph; gained = omega (arith, x.gained, y.gained) }

pub ranked_within : {a b : Ranking} {r : ℕ} → Ranked a r b → r ≤ a.graph.shape.states
ranked_within {b = b} x = omega (arith, x.gained, ap (λ g. g.shape.states) x.same_graph, tally_within (visited b.ranked) b.graph.shape.states)

-- n of n are ranked, and none of them is on a ring
pub gained_all : (hs : List ℕ) (n : ℕ) {r : ℕ} (old ranked : List Bool) → OffRings hs n ranked → tally n (visited old) + r ≤ tally n (visited ranked) → n ≤ r → (t : ℕ) → t < n → OnRing hs t → ⊥
gained_all hs n old ranked u more h t l = u t l (go (decided (visited ranked t))) where
  go : (visited ranked t ≡ true) ⊎ (visited ranked t ≡ false) → visited ranked t ≡ true
  go (inl e) = e
  go (inr e) =
      absurd (omega (arith, more, tally_less (visited ranked) (λ (j : ℕ). true) n (λ j k d. refl) l e refl, tally_within (λ (j : ℕ). true) n))

pub ranked_all : {a b : Ranking} {r : ℕ} → Ranked a r b → b.graph.shape.states ≤ r → (t : ℕ) → t < b.graph.shape.states → OnRing b.graph.index.hops.now t → ⊥
ranked_all {a} {b} x h = gained_all b.graph.index.hops.now b.graph.shape.states a.ranked b.ranked b.unringed (rw (ap (λ g. g.shape.states) (sym x.same_graph)) at x.gained) h

pub ranked_all_lowest : {a b : Ranking} {r : ℕ} → Ranked a r b → b.graph.shape.states ≤ r → b.graph.shape.states ≡ lowest_on_ring b.graph.shape b.graph.index.hops.now
ranked_all_lowest {b = b} x h = lowest_none b.graph.admitted.range (ranked_all x h)
