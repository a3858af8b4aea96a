-- What a fault count of 0 means: the map loses no hop and leaves none unmatched, which is
-- Definition 2.4 for the map taken as a relation, with the initial states joined. Each sum is 0
-- exactly when each of its tests passes, and each test is read off its definition. Assumes nothing.
use Prim.Native.Nat.{ℕ, ◌<◌}
use mathlib.Core.Path.{◌≡◌, refl, sym, ap, ◌∙◌}
use mathlib.Core.Bool.{Bool, true, false, cond, not, ◌&&◌}
use mathlib.Core.List.{List}
use mathlib.Core.Logic.{◌⊎◌, inl, inr, ⊎_elim, ◌↔◌}
use native.Mathlib.Omega.{arith}
use borrow.Author.Tests.{eq-eqb, eqb-true, not-false}
use lib.Dec.{eqb}
use Rattle.std.proofs.lemmas.Bool.{and_from, and_left, and_parts, and_right, cases_Bool, not_from_true, or_cases, or_left, or_right}
use Rattle.base_bounded.specs.Quantifiers.{tally}
use Rattle.graph.specs.Hops.{count, from, label, to}
use Rattle.graph_check.specs.Check.{InRange, Admitted}
use Rattle.graph.specs.declared.Shape.{Shape}
use Rattle.base_bounded.proofs.Quantifiers.{any_found, any_at, tally_zero, tally_each, total_zero, total_each}
use Rattle.graph.proofs.Places.{has_at, has_place, place_has}
use Rattle.lts.specs.Star.{stay}
use Rattle.lts.specs.Internal.Reduction.{MatchedBack, Reduces}
use Rattle.walk_silent.specs.Silent.{HopOf, Leads, leads}
use Rattle.walk_silent.proofs.Leads.{leads_iff}
use Rattle.graph.specs.Map.{mapped}
use Rattle.audit_faults.specs.Faults.{initial_fault, preserved, lost_faults, match_at, matched_from, matched, unmatched, unmatched_faults, faults_of}
use Rattle.audit_admitted.specs.Admitted.{AdmittedMap}
use Rattle.audit_entry.specs.Bisimulation.{BranchingBisimulation, MapRelation, JoinsInitial}

-- the map loses no hop of graph 1 and leaves no hop of graph 2 unmatched, and leads from the one
-- initial state to the other
pub record Faultless (sh1 sh2 : Shape) (h1 h2 m : List ℕ) : Type 0 where
  pub joins : mapped m sh1.initial ≡ sh2.initial
  pub keeps : Reduces (λ s. s < sh1.states) (HopOf h1) (HopOf h2) (mapped m)

-- both ends of a hop are states
module _ {sh : Shape} {hs : List ℕ} (ranged : InRange sh hs) (s a t : ℕ) (h : HopOf hs s a t) where
  pub hop_from_lem : s < sh.states
  hop_from_lem = let p = has_place hs s a t h in rw p.from_is at (ranged.from_in p.at p.within)

  pub hop_to : t < sh.states
  hop_to = let p = has_place hs s a t h in rw p.to_is at (ranged.to_in p.at p.within)

module _ (h1 h2 m : List ℕ) where
  -- the test of the second sum
  kept_says : (i : ℕ) → preserved h1 h2 m i ≡ true →
      ((label h1 i ≡ 0) × (mapped m (from h1 i) ≡ mapped m (to h1 i))) ⊎ HopOf h2 (mapped m (from h1 i)) (label h1 i) (mapped m (to h1 i))
  unfolding preserved
  kept_says i e =
      ⊎_elim (λ d. inl (eqb-true _ _ (and_parts (eqb (label h1 i) 0) _ d).0, eqb-true _ _ (and_parts (eqb (label h1 i) 0) _ d).1)) inr
      (or_cases (eqb (label h1 i) 0 && eqb (mapped m (from h1 i)) (mapped m (to h1 i))) _ e)

  says_kept : (i : ℕ) →
      ((label h1 i ≡ 0) × (mapped m (from h1 i) ≡ mapped m (to h1 i))) ⊎ HopOf h2 (mapped m (from h1 i)) (label h1 i) (mapped m (to h1 i)) →
      preserved h1 h2 m i ≡ true
  unfolding preserved
  says_kept i (inl (a, b)) = or_left _ _ (and_from _ _ (eq-eqb _ _ a) (eq-eqb _ _ b))
  says_kept i (inr e) = or_right (eqb (label h1 i) 0 && eqb (mapped m (from h1 i)) (mapped m (to h1 i))) _ e

module _ (sh1 sh2 : Shape) (h1 h2 m : List ℕ) (ranged : InRange sh1 h1) where
  -- a test of the third sum: the state that s leads to, and its hop
  backed_says : (s a q : ℕ) → matched_from sh1 h1 m s (mapped m s) a q ≡ true → MatchedBack (HopOf h1) (mapped m) s a q
  unfolding matched_from match_at
  backed_says s a q e =
      let (u, l, d) = any_at (λ (u : ℕ). leads h1 sh1.states s u && match_at h1 m (mapped m s) a q u) sh1.states e in
      let o = (and_parts (leads h1 sh1.states s u) _ d).1 in
      let (i, k, f) = any_at (λ (i : ℕ). eqb (from h1 i) u && (eqb (label h1 i) a && eqb (mapped m (to h1 i)) q)) (count h1) (and_parts (eqb (mapped m u) (mapped m s)) _ o).1 in
      let g = (and_parts (eqb (from h1 i) u) _ f).1 in (
        u,
        to h1 i,
        (leads_iff ranged s u).0 (and_parts (leads h1 sh1.states s u) _ d).0,
        eqb-true _ _ (and_parts (eqb (mapped m u) (mapped m s)) _ o).0,
        place_has h1 u a (to h1 i) (record {
          at = i;
          within = k;
          from_is = eqb-true _ _ (and_parts (eqb (from h1 i) u) _ f).0;
          label_is = eqb-true _ _ (and_parts (eqb (label h1 i) a) _ g).0;
          to_is = refl;
        }),
        eqb-true _ _ (and_parts (eqb (label h1 i) a) _ g).1,
      )

  says_matched_from : (s a q : ℕ) → MatchedBack (HopOf h1) (mapped m) s a q → matched_from sh1 h1 m s (mapped m s) a q ≡ true
  unfolding matched_from match_at
  says_matched_from s a q (u, t, su, c, h, e) =
      let p = has_place h1 u a t h in
      any_found (λ (u : ℕ). leads h1 sh1.states s u && match_at h1 m (mapped m s) a q u) sh1.states (hop_from_lem ranged u a t h)
      (and_from _ _ ((leads_iff ranged s u).1 su) (and_from _ _ (eq-eqb _ _ c) (any_found (λ (i : ℕ). eqb (from h1 i) u && (eqb (label h1 i) a && eqb (mapped m (to h1 i)) q)) (count h1) p.within
      (and_from _ _ (eq-eqb _ _ p.from_is) (and_from _ _ (eq-eqb _ _ p.label_is) (eq-eqb _ _ (ap (mapped m) p.to_is ∙ e)))))))

  module _ (j s : ℕ) (e : mapped m s ≡ from h2 j) where
    matched_says : matched sh1 h1 h2 m j s ≡ true →
        ((label h2 j ≡ 0) × (mapped m s ≡ to h2 j)) ⊎ MatchedBack (HopOf h1) (mapped m) s (label h2 j) (to h2 j)
    unfolding matched
    matched_says d =
        ⊎_elim (λ f. inl (eqb-true _ _ (and_parts (eqb (label h2 j) 0) _ f).0, e ∙ eqb-true _ _ (and_parts (eqb (label h2 j) 0) _ f).1))
        (λ f. inr (backed_says s _ _ (rw e f))) (or_cases (eqb (label h2 j) 0 && eqb (from h2 j) (to h2 j)) _ d)

    says_matched : ((label h2 j ≡ 0) × (mapped m s ≡ to h2 j)) ⊎ MatchedBack (HopOf h1) (mapped m) s (label h2 j) (to h2 j) →
        matched sh1 h1 h2 m j s ≡ true
    unfolding matched
    says_matched (inl (a, b)) = or_left _ _ (and_from _ _ (eq-eqb _ _ a) (eq-eqb _ _ (sym e ∙ b)))
    says_matched (inr b) = or_right (eqb (label h2 j) 0 && eqb (from h2 j) (to h2 j)) _ (rw e at (says_matched_from s _ _ b))

  -- a pair is no fault exactly when it is matched, where it is a pair at all
  unmade_matched : (j s : ℕ) → mapped m s ≡ from h2 j → unmatched sh1 h1 h2 m j s ≡ false → matched sh1 h1 h2 m j s ≡ true
  unfolding unmatched
  unmade_matched j s e d = not-false _ (rw (eq-eqb _ _ e) at d)

  matched_unmade : (j s : ℕ) → (mapped m s ≡ from h2 j → matched sh1 h1 h2 m j s ≡ true) → unmatched sh1 h1 h2 m j s ≡ false
  unfolding unmatched
  matched_unmade j s f = go (cases_Bool (eqb (mapped m s) (from h2 j))) where
    go : (eqb (mapped m s) (from h2 j) ≡ true) ⊎ (eqb (mapped m s) (from h2 j) ≡ false) →
        (eqb (mapped m s) (from h2 j) && not (matched sh1 h1 h2 m j s)) ≡ false
    go (inl e) = and_right (eqb (mapped m s) (from h2 j)) _ (not_from_true _ (f (eqb-true _ _ e)))
    go (inr e) = and_left _ _ e

  pub zero_faults_reduces : faults_of sh1 sh2 h1 h2 m ≡ 0 → Faultless sh1 sh2 h1 h2 m
  unfolding faults_of initial_fault lost_faults unmatched_faults
  zero_faults_reduces z = record { joins = joined (eqb (mapped m sh1.initial) sh2.initial) refl first; keeps = record { fore = ahead; back = behind } }
    where
      first : initial_fault sh1 sh2 m ≡ 0
      first = omega arith

      second : lost_faults h1 h2 m ≡ 0
      second = omega arith

      third : unmatched_faults sh1 h1 h2 m ≡ 0
      third = omega arith

      joined : (x : Bool) → eqb (mapped m sh1.initial) sh2.initial ≡ x → ◌≡◌ {A = ℕ} (cond x 0 1) 0 → mapped m sh1.initial ≡ sh2.initial
      joined true d e = eqb-true _ _ d
      joined false d e = absurd (omega arith)

      ahead : (s a t : ℕ) → HopOf h1 s a t → ((a ≡ 0) × (mapped m s ≡ mapped m t)) ⊎ HopOf h2 (mapped m s) a (mapped m t)
      ahead s a t h =
          let p = has_place h1 s a t h in
          rw (p.from_is, p.label_is, p.to_is) at
          (kept_says h1 h2 m p.at (not-false _ (tally_each (λ (i : ℕ). not (preserved h1 h2 m i)) (count h1) second p.within)))

      behind : (s a q : ℕ) → s < sh1.states → HopOf h2 (mapped m s) a q →
          ((a ≡ 0) × (mapped m s ≡ q)) ⊎ MatchedBack (HopOf h1) (mapped m) s a q
      behind s a q l h =
          let p = has_place h2 (mapped m s) a q h in
          rw (p.label_is, p.to_is) at
          (matched_says p.at s (sym p.from_is) (unmade_matched p.at s (sym p.from_is)
          (tally_each (unmatched sh1 h1 h2 m p.at) sh1.states (total_each (λ (j : ℕ). tally sh1.states (unmatched sh1 h1 h2 m j)) (count h2) third p.within) l)))

  faultless_zero : Faultless sh1 sh2 h1 h2 m → faults_of sh1 sh2 h1 h2 m ≡ 0
  unfolding faults_of initial_fault lost_faults unmatched_faults
  faultless_zero f =
      rw (
        eq-eqb _ _ f.joins,
        tally_zero (λ (i : ℕ). not (preserved h1 h2 m i)) (count h1) second,
        total_zero (λ (j : ℕ). tally sh1.states (unmatched sh1 h1 h2 m j)) (count h2) (λ j l. tally_zero (unmatched sh1 h1 h2 m j) sh1.states (λ s k. third j s l k)),
      ) where
        second : (i : ℕ) → i < count h1 → not (preserved h1 h2 m i) ≡ false
        second i l = not_from_true _ (says_kept h1 h2 m i (f.keeps.fore (from h1 i) (label h1 i) (to h1 i) (has_at h1 l)))

        third : (j s : ℕ) → j < count h2 → s < sh1.states → unmatched sh1 h1 h2 m j s ≡ false
        third j s l k = matched_unmade j s (λ e. says_matched j s e (f.keeps.back s (label h2 j) (to h2 j) k (rw e (has_at h2 l))))

  faultless_bisimulation : AdmittedMap sh1 sh2 m → Faultless sh1 sh2 h1 h2 m → BranchingBisimulation sh1 sh2 h1 h2 (MapRelation sh1 m)
  faultless_bisimulation fit f = record {
    pairs = λ s r b. (b.0, rw b.1 at (fit.entries_in s b.0));
    there = λ s r b a t h. there s r b a t h (f.keeps.fore s a t h);
    back = λ s r b a q h. again s r b a q (f.keeps.back s a q b.0 (rw b.1 h));
  }
    where
      there : (s r : ℕ) → MapRelation sh1 m s r → (a t : ℕ) → HopOf h1 s a t →
          ((a ≡ 0) × (mapped m s ≡ mapped m t)) ⊎ HopOf h2 (mapped m s) a (mapped m t) →
          ((a ≡ 0) × MapRelation sh1 m t r) ⊎ ((u : ℕ) × (v : ℕ) × Leads h2 r u × HopOf h2 u a v × MapRelation sh1 m s u × MapRelation sh1 m t v)
      there s r (l, e) a t h (inl (z, d)) = inl (z, (hop_to ranged s a t h, sym d ∙ e))
      there s r (l, e) a t h (inr k) = inr (r, mapped m t, stay, rw e at k, (l, e), (hop_to ranged s a t h, refl))

      again : (s r : ℕ) → MapRelation sh1 m s r → (a q : ℕ) → ((a ≡ 0) × (mapped m s ≡ q)) ⊎ MatchedBack (HopOf h1) (mapped m) s a q →
          ((a ≡ 0) × MapRelation sh1 m s q) ⊎ ((u : ℕ) × (t : ℕ) × Leads h1 s u × HopOf h1 u a t × MapRelation sh1 m u r × MapRelation sh1 m t q)
      again s r (l, e) a q (inl (z, d)) = inl (z, (l, d))
      again s r (l, e) a q (inr (u, t, su, d, h, x)) = inr (u, t, su, h, (hop_from_lem ranged u a t h, d ∙ e), (hop_to ranged u a t h, x))

  bisimulation_faultless : BranchingBisimulation sh1 sh2 h1 h2 (MapRelation sh1 m) × JoinsInitial sh1 sh2 (MapRelation sh1 m) → Faultless sh1 sh2 h1 h2 m
  bisimulation_faultless (b, i) = record {
    joins = i.1;
    keeps = record {
      fore = λ s a t h. ahead s a t (b.there s (mapped m s) (hop_from_lem ranged s a t h, refl) a t h);
      back = λ s a q l h. behind s a q (b.back s (mapped m s) (l, refl) a q h);
    };
  }
    where
      ahead : (s a t : ℕ) →
          ((a ≡ 0) × MapRelation sh1 m t (mapped m s)) ⊎
          ((u : ℕ) × (v : ℕ) × Leads h2 (mapped m s) u × HopOf h2 u a v × MapRelation sh1 m s u × MapRelation sh1 m t v) →
          ((a ≡ 0) × (mapped m s ≡ mapped m t)) ⊎ HopOf h2 (mapped m s) a (mapped m t)
      ahead s a t (inl (z, (l, e))) = inl (z, sym e)
      ahead s a t (inr (u, v, su, h, (k, d), (l, e))) = inr (rw (d, e) h)

      behind : (s a q : ℕ) →
          ((a ≡ 0) × MapRelation sh1 m s q) ⊎
          ((u : ℕ) × (t : ℕ) × Leads h1 s u × HopOf h1 u a t × MapRelation sh1 m u (mapped m s) × MapRelation sh1 m t q) →
          ((a ≡ 0) × (mapped m s ≡ q)) ⊎ MatchedBack (HopOf h1) (mapped m) s a q
      behind s a q (inl (z, (l, e))) = inl (z, e)
      behind s a q (inr (u, t, su, h, (k, d), (l, e))) = inr (u, t, su, d, h, e)

-- the audit's count is 0 exactly when the map is a branching bisimulation that joins the initial
-- states
pub audit_zero_iff : (sh1 sh2 : Shape) (h1 h2 m : List ℕ) → Admitted sh1 h1 → Admitted sh2 h2 → AdmittedMap sh1 sh2 m →
    (faults_of sh1 sh2 h1 h2 m ≡ 0) ↔ (BranchingBisimulation sh1 sh2 h1 h2 (MapRelation sh1 m) × JoinsInitial sh1 sh2 (MapRelation sh1 m))
audit_zero_iff sh1 sh2 h1 h2 m a1 a2 fit = (
  λ z. (let f = zero_faults_reduces sh1 sh2 h1 h2 m a1.range z in (faultless_bisimulation sh1 sh2 h1 h2 m a1.range fit f, (a1.initial_in, f.joins))),
  λ b. faultless_zero sh1 sh2 h1 h2 m a1.range (bisimulation_faultless sh1 sh2 h1 h2 m a1.range b),
)

-- a map that agrees with one that reduces graph 1 to graph 2, and joins the initial states, has no
-- faults
pub reduces_zero : (sh1 sh2 : Shape) (h1 h2 m : List ℕ) → InRange sh1 h1 → {f : ℕ → ℕ} → Reduces (λ s. s < sh1.states) (HopOf h1) (HopOf h2) f →
    ((s : ℕ) → s < sh1.states → mapped m s ≡ f s) → mapped m sh1.initial ≡ sh2.initial → faults_of sh1 sh2 h1 h2 m ≡ 0
reduces_zero sh1 sh2 h1 h2 m ranged {f} F same joins =
    faultless_zero sh1 sh2 h1 h2 m ranged (record { joins = joins; keeps = record { fore = λ s a t h. ahead s a t h (F.fore s a t h); back = behind } }) where
      from_same : (s a t : ℕ) → HopOf h1 s a t → mapped m s ≡ f s
      from_same s a t h = same s (hop_from_lem ranged s a t h)

      to_same : (s a t : ℕ) → HopOf h1 s a t → mapped m t ≡ f t
      to_same s a t h = same t (hop_to ranged s a t h)

      ahead : (s a t : ℕ) → HopOf h1 s a t → ((a ≡ 0) × (f s ≡ f t)) ⊎ HopOf h2 (f s) a (f t) →
          ((a ≡ 0) × (mapped m s ≡ mapped m t)) ⊎ HopOf h2 (mapped m s) a (mapped m t)
      ahead s a t h x = rw (from_same s a t h, to_same s a t h) x

      behind : (s a q : ℕ) → s < sh1.states → HopOf h2 (mapped m s) a q → ((a ≡ 0) × (mapped m s ≡ q)) ⊎ MatchedBack (HopOf h1) (mapped m) s a q
      behind s a q l h = go (F.back s a q l (rw (same s l) at h)) where
        go : ((a ≡ 0) × (f s ≡ q)) ⊎ MatchedBack (HopOf h1) f s a q → ((a ≡ 0) × (mapped m s ≡ q)) ⊎ MatchedBack (HopOf h1) (mapped m) s a q
        go (inl (z, d)) = inl (z, same s l ∙ d)
        go (inr (u, t, su, d, k, e)) = inr (u, t, su, from_same u a t k ∙ d ∙ sym (same s l), k, to_same u a t k ∙ e)
