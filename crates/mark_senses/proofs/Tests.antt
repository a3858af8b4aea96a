-- What the tests of a sense say, and the other way round: `closes_in` is the condition of
-- `lts: Closes`, with "in U" read as `u s t ≡ true`. And they only grow with the set. No sense is
-- named here. Assumes nothing.
use Prim.Native.Nat.{ℕ, zero, suc, ◌<◌}
use mathlib.Core.Path.{◌≡◌, refl}
use mathlib.Core.Bool.{Bool, true, ◌&&◌}
use mathlib.Core.List.{List}
use mathlib.Core.Logic.{◌⊎◌, inl, inr, ⊎_elim}
use lib.Dec.{eqb}
use borrow.Author.Tests.{eq-eqb, ne_eqb, eqb-true}
use Rattle.base_bounded.proofs.Bools.{and_yes, and_left, and_right, or_left, or_right, or_yes, eq_or_not}
use Rattle.base_bounded.proofs.Quantifiers.{all_at, all_yes, any_at, any_found}
use Rattle.graph.specs.Hops.{count, from, label, to, has}
use Rattle.graph.specs.declared.Shape.{Shape}
use Rattle.graph.proofs.Places.{has_at, has_place}
use Rattle.graph_check.specs.Check.{InRange}
use Rattle.lts.specs.Star.{Star, stay, go}
use Rattle.lts.specs.Closes.{Reach, nowhere, single, walks, Via, here, hop, walk, Sense, Answered, Closes}
use Rattle.lts.specs.Sense.{HopOrStay}
use Rattle.lts.proofs.Star.{star_mono}
use Rattle.walk_reach.specs.Internal.Reach.{ChosenOf}
use Rattle.walk_reach.specs.Reach.{leads_by}
use Rattle.walk_reach.proofs.Leads.{leads_self, leads_step, leads_cases, leads_walk, walk_leads}
use Rattle.walk_silent.specs.Silent.{HopOf}
use Rattle.walk_silent.proofs.Hops.{silent_end}
use Rattle.base_fixpoint.specs.Pairs.{Pairs, In, Subset}
use Rattle.mark_confluence.specs.Rounds.{Trials, tried}
use Rattle.mark_senses.specs.Senses.{in_set_at, reaches_by, hop_or_stay, joins_at, answers_to, answers_from, answered_in, closes_in}

-- a walk of at most k hops of a set is one of a larger set
leads_mono : (hs : List ℕ) (c d : ℕ → Bool) → ((i : ℕ) → c i ≡ true → d i ≡ true) → (k s t : ℕ) → leads_by hs c k s t ≡ true → leads_by hs d k s t ≡ true
unfolding leads_by
leads_mono hs c d f zero s t e = e
leads_mono hs c d f (suc k) s t e =
    ⊎_elim (λ q. rw q (leads_self hs d (suc k) t))
    (λ (m, p, h). leads_step hs d k s m t (record { at = p.at; within = p.within; from_is = p.from_is; chosen = f p.at p.chosen; to_is = p.to_is })
    (leads_mono hs c d f k m t h))
    (leads_cases hs c k s t e)

module _ (hs : List ℕ) (n : ℕ) (u : Pairs) where
  -- a chosen hop is one of the set
  pub chosen_in_lem : (s t : ℕ) → ChosenOf hs (in_set_at hs u) s t → In u s t
  unfolding in_set_at
  chosen_in_lem s t p = rw (p.from_is, p.to_is) at (and_right (eqb (label hs p.at) 0) (u (from hs p.at) (to hs p.at)) p.chosen)

  pub in_chosen : (s t : ℕ) → has hs s 0 t ≡ true → In u s t → ChosenOf hs (in_set_at hs u) s t
  unfolding in_set_at
  in_chosen s t h m =
      let p = has_place hs s 0 t h in
      record {
        at = p.at;
        within = p.within;
        from_is = p.from_is;
        chosen = and_yes (eq-eqb (label hs p.at) 0 p.label_is) (rw (p.from_is, p.to_is) m);
        to_is = p.to_is;
      }

  pub reaches_by_says : (r : Reach) (s t : ℕ) → reaches_by hs n u r s t ≡ true → Via (In u) r s t
  unfolding reaches_by
  reaches_by_says nowhere s t e = rw (eqb-true s t e) here
  reaches_by_says single s t e = ⊎_elim (λ q. rw (eqb-true s t q) here) (λ m. hop m) (or_yes (eqb s t) (u s t) e)
  reaches_by_says walks s t e = walk (star_mono chosen_in_lem (leads_walk hs (in_set_at hs u) n s t e))

  comes_self : (r : Reach) (s : ℕ) → reaches_by hs n u r s s ≡ true
  unfolding reaches_by
  comes_self nowhere s = eq-eqb s s refl
  comes_self single s = or_left (u s s) (eq-eqb s s refl)
  comes_self walks s = leads_self hs (in_set_at hs u) n s

  pub hop_or_stay_says : (p a q : ℕ) → hop_or_stay hs p a q ≡ true → HopOrStay (HopOf hs) (In u) p a q
  unfolding hop_or_stay
  hop_or_stay_says p a q e =
      ⊎_elim (λ h. inl h) (λ h. inr (eqb-true a 0 (and_left (eqb a 0) (eqb q p) h), eqb-true q p (and_right (eqb a 0) (eqb q p) h)))
      (or_yes (has hs p a q) (eqb a 0 && eqb q p) e)

  pub hop_or_stay_yes : (p a q : ℕ) → HopOrStay (HopOf hs) (In u) p a q → hop_or_stay hs p a q ≡ true
  unfolding hop_or_stay
  hop_or_stay_yes p a q (inl h) = or_left (eqb a 0 && eqb q p) h
  hop_or_stay_yes p a q (inr (z, e)) = or_right (has hs p a q) (and_yes (eq-eqb a 0 z) (eq-eqb q p e))

module _ (sense : Sense) (hs : List ℕ) (n : ℕ) (u : Pairs) where
  pub answered_says : (s2 a s3 : ℕ) → answered_in sense hs n u s2 a s3 ≡ true → Answered sense (HopOf hs) (In u) s2 a s3
  unfolding answered_in answers_from answers_to joins_at
  answered_says s2 a s3 e =
      let (p, _, x) = any_at (answers_from sense hs n u s2 a s3) n e in
      let (q, _, y) = any_at (answers_to sense hs n u p a s3) n (and_right (reaches_by hs n u sense.before s2 p) _ x) in
      let (s4, _, z) = any_at (joins_at sense hs n u q s3) n (and_right (hop_or_stay hs p a q) _ y) in (
        p,
        q,
        s4,
        reaches_by_says hs n u sense.before s2 p (and_left (reaches_by hs n u sense.before s2 p) _ x),
        hop_or_stay_says hs n u p a q (and_left (hop_or_stay hs p a q) _ y),
        reaches_by_says hs n u sense.after q s4 (and_left (reaches_by hs n u sense.after q s4) _ z),
        reaches_by_says hs n u sense.closing s3 s4 (and_right (reaches_by hs n u sense.after q s4) _ z),
      )

-- what is tried, whatever a trial is
module _ (hs : List ℕ) (y : Trials) (s1 s2 : ℕ) where
  tried_says : (a s3 : ℕ) → ((i : ℕ) → i < count hs → tried hs y s1 s2 i ≡ true) → has hs s1 a s3 ≡ true → y s2 a s3 ≡ true
  unfolding tried
  tried_says a s3 f h =
      let p = has_place hs s1 a s3 h in
      let e = f p.at p.within in
      rw (p.label_is, p.to_is) at (rw (eq-eqb (from hs p.at) s1 p.from_is) at e)

  tried_yes : ((a s3 : ℕ) → has hs s1 a s3 ≡ true → y s2 a s3 ≡ true) → (i : ℕ) → i < count hs → tried hs y s1 s2 i ≡ true
  unfolding tried
  tried_yes f i l = by (eq_or_not (from hs i) s1) where
    by : (from hs i ≡ s1) ⊎ (from hs i ≡ s1 → ⊥) → tried hs y s1 s2 i ≡ true
    by (inl e) = rw (eq-eqb (from hs i) s1 e) (f (label hs i) (to hs i) (rw e at (has_at hs l)))
    by (inr n) = rw (ne_eqb (from hs i) s1 n)

module _ (sense : Sense) (sh : Shape) (hs : List ℕ) where
  pub closes_says : (u : Pairs) (s1 s2 : ℕ) → closes_in sense sh hs u s1 s2 ≡ true → Closes sense (HopOf hs) (In u) s1 s2
  unfolding closes_in
  closes_says u s1 s2 e a s3 h =
      answered_says sense hs sh.states u s2 a s3
      (tried_says hs (answered_in sense hs sh.states u) s1 s2 a s3 (λ i l. all_at (tried hs (answered_in sense hs sh.states u) s1 s2) (count hs) e l) h)

  -- the tests grow with the set
  module _ (u v : Pairs) (f : Subset (In u) (In v)) where
    comes_mono : (r : Reach) (s t : ℕ) → reaches_by hs sh.states u r s t ≡ true → reaches_by hs sh.states v r s t ≡ true
    unfolding reaches_by in_set_at
    comes_mono nowhere s t e = e
    comes_mono single s t e = ⊎_elim (λ q. or_left (v s t) q) (λ m. or_right (eqb s t) (f s t m)) (or_yes (eqb s t) (u s t) e)
    comes_mono walks s t e = leads_mono hs (in_set_at hs u) (in_set_at hs v) more sh.states s t e where
      more : (i : ℕ) → in_set_at hs u i ≡ true → in_set_at hs v i ≡ true
      more i q =
          and_yes (and_left (eqb (label hs i) 0) (u (from hs i) (to hs i)) q) (f (from hs i) (to hs i) (and_right (eqb (label hs i) 0) (u (from hs i) (to hs i)) q))

    answered_mono : (s2 a s3 : ℕ) → answered_in sense hs sh.states u s2 a s3 ≡ true → answered_in sense hs sh.states v s2 a s3 ≡ true
    unfolding answered_in answers_from answers_to joins_at
    answered_mono s2 a s3 e =
        let n = sh.states in
        let (p, l, x) = any_at (answers_from sense hs n u s2 a s3) n e in
        let (q, k, y) = any_at (answers_to sense hs n u p a s3) n (and_right (reaches_by hs n u sense.before s2 p) _ x) in
        let (s4, j, z) = any_at (joins_at sense hs n u q s3) n (and_right (hop_or_stay hs p a q) _ y) in
        any_found (answers_from sense hs n v s2 a s3) n l
        (and_yes (comes_mono sense.before s2 p (and_left (reaches_by hs n u sense.before s2 p) _ x))
        (any_found (answers_to sense hs n v p a s3) n k
        (and_yes (and_left (hop_or_stay hs p a q) _ y)
        (any_found (joins_at sense hs n v q s3) n j
        (and_yes (comes_mono sense.after q s4 (and_left (reaches_by hs n u sense.after q s4) _ z))
        (comes_mono sense.closing s3 s4 (and_right (reaches_by hs n u sense.after q s4) _ z)))))))

    pub closes_mono : Subset (In (closes_in sense sh hs u)) (In (closes_in sense sh hs v))
    unfolding closes_in
    closes_mono s1 s2 e =
        let n = sh.states in
        all_yes (tried hs (answered_in sense hs n v) s1 s2) (count hs)
        (tried_yes hs (answered_in sense hs n v) s1 s2 (λ a s3 h. answered_mono s2 a s3
        (tried_says hs (answered_in sense hs n u) s1 s2 a s3 (λ i l. all_at (tried hs (answered_in sense hs n u) s1 s2) (count hs) e l) h)))

  -- the other way round, of any set W of silent hops, decidable or not, that u holds
  module _ (ranged : InRange sh hs) {W : ℕ → ℕ → Type 0} (silent : (s t : ℕ) → W s t → HopOf hs s 0 t) where
    -- where a state comes to along W is a state
    via_in : {r : Reach} {s t : ℕ} → s < sh.states → Via W r s t → t < sh.states
    via_in l here = l
    via_in l (hop {s} {t} m) = silent_end ranged s t (silent s t m)
    via_in l (walk p) = along l p where
      along : {s t : ℕ} → s < sh.states → Star W s t → t < sh.states
      along l stay = l
      along l (go {s} {m} w p) = along (silent_end ranged s m (silent s m w)) p

    answer_in : (p a q : ℕ) → p < sh.states → HopOrStay (HopOf hs) W p a q → q < sh.states
    answer_in p a q l (inl h) = let i = has_place hs p a q h in rw (← i.to_is) (ranged.to_in i.at i.within)
    answer_in p a q l (inr (z, e)) = rw e l

    module _ (u : Pairs) (f : Subset W (In u)) where
      comes_yes : {r : Reach} {s t : ℕ} → Via W r s t → reaches_by hs sh.states u r s t ≡ true
      unfolding reaches_by
      comes_yes (here {r} {s}) = comes_self hs sh.states u r s
      comes_yes (hop {s} {t} m) = or_right (eqb s t) (f s t m)
      comes_yes (walk p) = walk_leads ranged (in_set_at hs u) (star_mono (λ s t m. in_chosen hs sh.states u s t (silent s t m) (f s t m)) p)

      answered_yes : (s2 a s3 : ℕ) → s2 < sh.states → Answered sense (HopOf hs) W s2 a s3 → answered_in sense hs sh.states u s2 a s3 ≡ true
      unfolding answered_in answers_from answers_to joins_at
      answered_yes s2 a s3 l (p, q, s4, x, y, z, w) =
          let n = sh.states in
          let i = via_in l x in
          let j = answer_in p a q i y in
          any_found (answers_from sense hs n u s2 a s3) n i
          (and_yes (comes_yes x)
          (any_found (answers_to sense hs n u p a s3) n j
          (and_yes (hop_or_stay_yes hs n u p a q y)
          (any_found (joins_at sense hs n u q s3) n (via_in j z) (and_yes (comes_yes z) (comes_yes w))))))

      pub closes_yes : (s1 s2 : ℕ) → W s1 s2 → Closes sense (HopOf hs) W s1 s2 → closes_in sense sh hs u s1 s2 ≡ true
      unfolding closes_in
      closes_yes s1 s2 m c =
          all_yes (tried hs (answered_in sense hs sh.states u) s1 s2) (count hs)
          (tried_yes hs (answered_in sense hs sh.states u) s1 s2 (λ a s3 h. answered_yes s2 a s3 (silent_end ranged s1 s2 (silent s1 s2 m)) (c a s3 h)))
