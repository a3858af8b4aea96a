-- A state is on a ring exactly when it leads to a state that has a silent hop to it: the walk is
-- cut before its last hop instead of after its first. And what a range asks of each of its numbers
-- is asked below a bound. Assumes nothing.
use Prim.Native.Nat.{ℕ, zero, suc, ◌+◌, ◌<◌}
use mathlib.Core.Path.{◌≡◌, refl, sym, ◌∙◌}
use mathlib.Core.Bool.{Bool, true, false, ◌&&◌, ◌||◌}
use mathlib.Core.List.{List, ◌++◌}
use borrow.Author.Tests.{eq-eqb, eqb-true}
use lib.Dec.{eqb}
use native.Mathlib.Omega.{arith}
use Rattle.std.specs.List.{list_any, range_with_len}
use Rattle.std.proofs.Common.{add-zero}
use Rattle.base_bounded.specs.Quantifiers.{any}
use Rattle.graph.specs.Hops.{count, from, label, to}
use Rattle.graph_check.specs.Check.{InRange}
use Rattle.graph.specs.declared.Shape.{Shape}
use Rattle.base_bounded.proofs.Bools.{and_left, and_right, and_yes, same_test}
use Rattle.base_bounded.proofs.Quantifiers.{any_at, any_found, any_more}
use Rattle.graph.proofs.Places.{has_place, place_has}
use Rattle.lts.specs.Star.{stay, go}
use Rattle.lts.proofs.Star.{one, join}
use Rattle.walk_silent.specs.Silent.{SilentOf, Leads, OnRing, silent_at, leads, on_ring}
use Rattle.walk_reach.specs.Internal.Reach.{chosen_in, Chooses}
use Rattle.walk_reach.specs.Internal.Frontier.{visited, reached_flags}
use Rattle.walk_rings.specs.Internal.Ring.{leads_back_at}
use Rattle.walk_silent.proofs.Leads.{leads_walk, walk_leads, visited_leads}
use Rattle.walk_silent.proofs.Rings.{ring_walk, walk_ring}

-- the numbers of a range are asked as all below its end are, where none below its start passes
pub any_range : (p : ℕ → Bool) (lo n : ℕ) → any lo p ≡ false → list_any p (range_with_len lo n) ≡ any (lo + n) p
any_range p lo zero e = rw (add-zero lo, e)
any_range p lo (suc n) e = go (p lo) refl (λ f. any_range p (lo + 1) n f) where
  go : (b : Bool) → p lo ≡ b → (any (lo + 1) p ≡ false → list_any p (range_with_len (lo + 1) n) ≡ any (lo + 1 + n) p) →
      (b || list_any p (range_with_len (lo + 1) n)) ≡ any (lo + suc n) p
  go true d ih = sym (any_found p (lo + suc n) (omega arith) d)
  go false d ih = let q : lo + suc n ≡ lo + 1 + n = omega arith in rw q (ih (any_more p lo e d))

module _ (hs : List ℕ) where
  -- a walk back to s from the end of one of its hops, cut before its last hop
  pub ring_last : (s : ℕ) → OnRing hs s → (u : ℕ) × Leads hs s u × SilentOf hs u s
  ring_last s (t, r, w) = cut w stay r where
    cut : {a m : ℕ} → Leads hs m s → Leads hs s a → SilentOf hs a m → (u : ℕ) × Leads hs s u × SilentOf hs u s
    cut {a} stay p r = (a, p, r)
    cut (go r' q) p r = cut q (join p (one r)) r'

  pub ring_first : (s u : ℕ) → Leads hs s u → SilentOf hs u s → OnRing hs s
  ring_first s u stay r = (s, r, stay)
  ring_first s u (go {m} a p) r = (m, a, join p (one r))

module _ {sh : Shape} {hs : List ℕ} (ranged : InRange sh hs) (flags : List Bool) (silent : Chooses hs (silent_at hs) flags) (s : ℕ) (seen rest : List Bool)
    (e : seen ≡ reached_flags hs (chosen_in flags) sh.states s ++ rest) where
  visited_is : (t : ℕ) → t < sh.states → visited seen t ≡ leads hs sh.states s t
  visited_is t l = rw e (visited_leads hs flags silent sh.states s rest l)

  -- after a search from s, some hop leads silently from a visited state to s exactly when s is on a
  -- ring
  pub back_ring : any (count hs) (leads_back_at hs seen s) ≡ on_ring hs sh.states s
  unfolding leads_back_at
  back_ring = same_test (any (count hs) (leads_back_at hs seen s)) (on_ring hs sh.states s) fore back where
    fore : any (count hs) (leads_back_at hs seen s) ≡ true → on_ring hs sh.states s ≡ true
    fore h =
        let (i, l, d) = any_at (leads_back_at hs seen s) (count hs) h in
        let a = and_left (eqb (label hs i) 0 && eqb (to hs i) s) (visited seen (from hs i)) d in
        let r : SilentOf hs (from hs i) s =
        place_has hs (from hs i) 0 s
        (record { at = i; within = l; from_is = refl; label_is = eqb-true _ _ (and_left (eqb (label hs i) 0) (eqb (to hs i) s) a); to_is = eqb-true _ _ (and_right (eqb (label hs i) 0) (eqb (to hs i) s) a) }) in
        walk_ring ranged s
        (ring_first hs s (from hs i)
        (leads_walk hs sh.states s (from hs i) (sym (visited_is (from hs i) (ranged.from_in i l)) ∙ and_right (eqb (label hs i) 0 && eqb (to hs i) s) (visited seen (from hs i)) d)) r)

    back : on_ring hs sh.states s ≡ true → any (count hs) (leads_back_at hs seen s) ≡ true
    back h =
        let (u, w, r) = ring_last hs s (ring_walk hs sh.states s h) in
        let p = has_place hs u 0 s r in
        any_found (leads_back_at hs seen s) (count hs) p.within
        (and_yes (and_yes (eq-eqb _ _ p.label_is) (eq-eqb _ _ p.to_is))
        (visited_is (from hs p.at) (ranged.from_in p.at p.within) ∙ rw p.from_is (walk_leads ranged w)))
