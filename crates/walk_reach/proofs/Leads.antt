-- The bounded test `leads_by` and walks along the chosen hops agree once the bound is the state
-- count: for each target, the states that do not lead to it within k hops are a descending chain of
-- sets, which is stationary after as many steps as there are states. Assumes nothing.
use Prim.Native.Nat.{ℕ, zero, suc, ◌<◌}
use mathlib.Core.Path.{◌≡◌, refl, sym, ap, ◌∙◌}
use mathlib.Core.Bool.{Bool, true, false, not, ◌&&◌, ◌||◌}
use mathlib.Core.List.{List}
use mathlib.Core.Logic.{◌⊎◌, inl, inr, ⊎_elim, ◌↔◌}
use borrow.Author.Tests.{eqb-true, eq-eqb, not-false}
use lib.Dec.{eqb}
use Rattle.base_bounded.specs.Quantifiers.{any}
use Rattle.graph.specs.Hops.{count, from, to}
use Rattle.graph_check.specs.Check.{InRange}
use Rattle.graph.specs.declared.Shape.{Shape}
use Rattle.base_bounded.proofs.Bools.{and_left, and_right, and_yes, or_left, or_right, or_yes, not_yes}
use Rattle.base_bounded.proofs.Quantifiers.{any_at, any_found, any_same}
use Rattle.base_bounded.proofs.Chains.{Falling, Still, still_at_last}
use Rattle.lts.specs.Star.{Star, stay, go}
use Rattle.walk_reach.specs.Internal.Reach.{ChosenOf}
use Rattle.walk_reach.specs.Reach.{leads_by}

-- one more hop in front: by the chosen hop at place i, and then by at most k
abbrev step : List ℕ → (ℕ → Bool) → ℕ → ℕ → ℕ → ℕ → Bool
step hs c k s t i = (eqb (from hs i) s && c i) && leads_by hs c k (to hs i) t

module _ (hs : List ℕ) (c : ℕ → Bool) where
  pub leads_self : (k s : ℕ) → leads_by hs c k s s ≡ true
  unfolding leads_by
  leads_self zero s = eq-eqb s s refl
  leads_self (suc k) s = or_left (any (count hs) (step hs c k s s)) (eq-eqb s s refl)

  pub leads_step : (k s m t : ℕ) → ChosenOf hs c s m → leads_by hs c k m t ≡ true → leads_by hs c (suc k) s t ≡ true
  unfolding leads_by
  leads_step k s m t p h =
      or_right (eqb s t) (any_found (step hs c k s t) (count hs) p.within (and_yes (and_yes (eq-eqb _ _ p.from_is) p.chosen) (rw p.to_is h)))

  -- the first hop of a bounded walk
  pub leads_cases : (k s t : ℕ) → leads_by hs c (suc k) s t ≡ true → (s ≡ t) ⊎ ((m : ℕ) × ChosenOf hs c s m × (leads_by hs c k m t ≡ true))
  unfolding leads_by
  leads_cases k s t h = ⊎_elim (λ e. inl (eqb-true s t e)) (λ e. inr (hop e)) (or_yes (eqb s t) (any (count hs) (step hs c k s t)) h) where
    hop : any (count hs) (step hs c k s t) ≡ true → (m : ℕ) × ChosenOf hs c s m × (leads_by hs c k m t ≡ true)
    hop e =
        let (i, l, d) = any_at (step hs c k s t) (count hs) e in
        let b = and_left (eqb (from hs i) s && c i) (leads_by hs c k (to hs i) t) d in (
          to hs i,
          record { at = i; within = l; from_is = eqb-true _ _ (and_left (eqb (from hs i) s) (c i) b); chosen = and_right (eqb (from hs i) s) (c i) b; to_is = refl },
          and_right (eqb (from hs i) s && c i) (leads_by hs c k (to hs i) t) d,
        )

  -- a longer bound allows no less
  pub leads_more : (k s t : ℕ) → leads_by hs c k s t ≡ true → leads_by hs c (suc k) s t ≡ true
  unfolding leads_by
  leads_more zero s t h = or_left (any (count hs) (step hs c zero s t)) h
  leads_more (suc k) s t h =
      ⊎_elim (λ e. or_left (any (count hs) (step hs c (suc k) s t)) (eq-eqb s t e))
      (λ w. let (m, p, d) = w in leads_step (suc k) s m t p (leads_more k m t d)) (leads_cases k s t h)

  -- a bounded walk is a walk
  pub leads_walk : (k s t : ℕ) → leads_by hs c k s t ≡ true → Star (ChosenOf hs c) s t
  unfolding leads_by
  leads_walk zero s t h = rw (eqb-true s t h) stay
  leads_walk (suc k) s t h = ⊎_elim (λ e. rw e stay) (λ w. let (m, p, d) = w in go p (leads_walk k m t d)) (leads_cases k s t h)

-- sets that choose the same hops of the list lead to the same states
pub leads_same : (hs : List ℕ) (c d : ℕ → Bool) → ((i : ℕ) → i < count hs → c i ≡ d i) → (k s t : ℕ) → leads_by hs c k s t ≡ leads_by hs d k s t
unfolding leads_by
leads_same hs c d e zero s t = refl
leads_same hs c d e (suc k) s t =
    ap (λ (b : Bool). eqb s t || b)
    (any_same (step hs c k s t) (step hs d k s t) (count hs) (λ i l. rw (e i l, leads_same hs c d e k (to hs i) t)))

module _ {sh : Shape} {hs : List ℕ} (ranged : InRange sh hs) (c : ℕ → Bool) where
  -- both ends of a chosen hop are states
  pub chosen_start : {s t : ℕ} → ChosenOf hs c s t → s < sh.states
  chosen_start p = rw (← p.from_is) (ranged.from_in p.at p.within)

  pub chosen_end : {s t : ℕ} → ChosenOf hs c s t → t < sh.states
  chosen_end p = rw (← p.to_is) (ranged.to_in p.at p.within)

  -- the states that do not lead to t within k hops
  abbrev away : ℕ → ℕ → ℕ → Bool
  away t k j = not (leads_by hs c k j t)

  away_falls : (t : ℕ) → Falling sh.states (away t)
  away_falls t k j l e = go (leads_by hs c k j t) refl where
    go : (x : Bool) → leads_by hs c k j t ≡ x → not x ≡ true
    go true d = sym (not_yes (leads_more hs c k j t d)) ∙ e
    go false d = refl

  away_rests : (t k : ℕ) → Still sh.states (away t) k → Still sh.states (away t) (suc k)
  unfolding leads_by
  away_rests t k still j l =
      ap (λ (b : Bool). not (eqb j t || b))
      (any_same (step hs c k j t) (step hs c (suc k) j t) (count hs) (λ i m. ap (λ (b : Bool). (eqb (from hs i) j && c i) && b) (same i m))) where
        un_not : (x y : Bool) → not x ≡ not y → x ≡ y
        un_not true true e = refl
        un_not true false e = sym e
        un_not false true e = sym e
        un_not false false e = refl

        same : (i : ℕ) → i < count hs → leads_by hs c k (to hs i) t ≡ leads_by hs c (suc k) (to hs i) t
        same i m = un_not (leads_by hs c k (to hs i) t) (leads_by hs c (suc k) (to hs i) t) (still (to hs i) (ranged.to_in i m))

  -- one hop more than there are states leads no further
  leads_rest : (s t : ℕ) → s < sh.states → leads_by hs c (suc sh.states) s t ≡ true → leads_by hs c sh.states s t ≡ true
  leads_rest s t l e = not-false _ (still_at_last sh.states (away t) (away_falls t) (away_rests t) s l ∙ not_yes e)

  pub walk_leads : {s t : ℕ} → Star (ChosenOf hs c) s t → leads_by hs c sh.states s t ≡ true
  walk_leads {s} stay = leads_self hs c sh.states s
  walk_leads {s} {t} (go {m} r p) = leads_rest s t (chosen_start r) (leads_step hs c sh.states s m t r (walk_leads p))

  pub leads_iff : (s t : ℕ) → (leads_by hs c sh.states s t ≡ true) ↔ Star (ChosenOf hs c) s t
  leads_iff s t = (leads_walk hs c sh.states s t, walk_leads)
