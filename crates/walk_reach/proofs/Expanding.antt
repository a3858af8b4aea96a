-- The visits of the ends of the chosen hops of v: the invariant, that each step keeps it, and that
-- in the end all are visited. Assumes nothing.
use Prim.Native.Nat.{ℕ, ◌+◌, ◌<◌, ◌≤◌}
use mathlib.Core.Path.{◌≡◌, refl, sym, ap, ◌∙◌}
use mathlib.Core.Bool.{Bool, true, false}
use mathlib.Core.List.{List}
use mathlib.Core.Logic.{⊎_elim}
use native.Mathlib.Omega.{arith}
use lib.ListN.{length}
use Rattle.graph.specs.Hops.{count, to}
use Rattle.graph.specs.Search.{first_of, past_of}
use Rattle.graph_check.specs.Check.{Admitted}
use Rattle.graph.specs.declared.Shape.{Shape}
use Rattle.base_bounded.proofs.Bools.{clash, eq_or_not}
use Rattle.graph.proofs.Lookup.{range_holds, range_only, first_within}
use Rattle.walk_reach.specs.Internal.Reach.{ChosenOf}
use Rattle.walk_reach.specs.Internal.Frontier.{visited, seen_with, queue_with, tail_with, Grown, Expanded}
use Rattle.walk_reach.proofs.Frontier.{grown_visit, visited_with, visited_kept}

-- the frontier has grown by the ends of the chosen hops of v before place i
pub record Passed (hs : List ℕ) (c : ℕ → Bool) (n v i : ℕ) (seen : List Bool) (queue : List ℕ) (tail : ℕ) (seen' : List Bool) (queue' : List ℕ) (tail' : ℕ) : Type 0 where
  pub grown : Grown hs c n v seen queue tail seen' queue' tail'
  pub ends : (j : ℕ) → first_of hs v ≤ j → j < i → c j ≡ true → visited seen' (to hs j) ≡ true

module _ {sh : Shape} {hs : List ℕ} (a : Admitted sh hs) (v : ℕ) where
  pub place_within : {i : ℕ} → i < first_of hs (v + 1) → i < count hs
  place_within l = omega (arith, first_within hs a.ascending (v + 1))

  pub end_within : {i : ℕ} → i < first_of hs (v + 1) → to hs i < sh.states
  end_within l = a.range.to_in _ (place_within l)

  module _ (c : ℕ → Bool) where
    module _ {i : ℕ} {seen : List Bool} {queue : List ℕ} {tail : ℕ} {seen₁ : List Bool} {queue₁ : List ℕ} {tail₁ : ℕ}
        (p : Passed hs c sh.states v i seen queue tail seen₁ queue₁ tail₁) where
      passed_next : first_of hs v ≤ i → i < first_of hs (v + 1) → c i ≡ true →
          Passed hs c sh.states v (i + 1) seen queue tail (seen_with seen₁ (to hs i)) (queue_with seen₁ queue₁ tail₁ (to hs i)) (tail_with seen₁ tail₁ (to hs i))
      unfolding past_of
      passed_next l m e = record {
        grown = grown_visit hs c sh.states v p.grown (to hs i) (end_within m)
            (record {
              at = i;
              within = place_within m;
              from_is = range_only hs a.ascending v (place_within m) l m;
              chosen = e;
              to_is = refl;
            });
        ends = λ j b k d. ⊎_elim (λ q. ap (λ (k : ℕ). visited (seen_with seen₁ (to hs i)) (to hs k)) q ∙ visited_with seen₁ (to hs i) capacity)
            (λ f. visited_kept seen₁ (to hs i) (to hs j) capacity (p.ends j b (omega arith) d)) (eq_or_not j i);
      } where
        capacity : to hs i < length seen₁
        capacity = omega (arith, end_within m, p.grown.front.seen_capacity)

      -- the same of what the code has
      pub passed_more : {t : ℕ} {seen₂ : List Bool} {queue₂ : List ℕ} {tail₂ : ℕ} → first_of hs v ≤ i → i < first_of hs (v + 1) → c i ≡ true → t ≡ to hs i →
          seen₂ ≡ seen_with seen₁ t → queue₂ ≡ queue_with seen₁ queue₁ tail₁ t → tail₂ ≡ tail_with seen₁ tail₁ t →
          Passed hs c sh.states v (i + 1) seen queue tail seen₂ queue₂ tail₂
      passed_more l m g e x y z = rw (x, y, z, e) (passed_next l m g)

      -- a hop that is not chosen is passed over
      pub passed_over : c i ≡ false → Passed hs c sh.states v (i + 1) seen queue tail seen₁ queue₁ tail₁
      passed_over e = record {
        grown = p.grown;
        ends = λ j b k d. ⊎_elim (λ q. clash d (ap c q ∙ e)) (λ f. p.ends j b (omega arith) d) (eq_or_not j i);
      }

      pub passed_all : first_of hs (v + 1) ≤ i → Expanded hs c sh.states v seen queue tail seen₁ queue₁ tail₁
      unfolding past_of
      passed_all l = record { grown = p.grown; every = λ u h. all_visited u h } where
        all_visited : (u : ℕ) → ChosenOf hs c v u → visited seen₁ u ≡ true
        all_visited u h =
            let (x, y) = range_holds hs a.ascending v h.within h.from_is in
            ap (visited seen₁) (sym h.to_is) ∙ p.ends h.at x (omega arith) h.chosen
