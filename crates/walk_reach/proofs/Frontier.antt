-- Laws of the search's frontier: a flag set, and how the frontier grows when a state is visited.
-- Assumes nothing.
use Prim.Native.Nat.{ℕ, ◌+◌, ◌<◌, ◌≤◌}
use mathlib.Core.Path.{◌≡◌, refl, sym, ap, ◌∙◌}
use mathlib.Core.Bool.{Bool, true, false, cond}
use mathlib.Core.List.{List}
use mathlib.Core.Logic.{◌⊎◌, inl, inr, ⊎_elim}
use native.Mathlib.Omega.{arith}
use lib.ListN.{length, get_or, set, length-set}
use lib.Seq.{get_or-set_same, get_or-set_other, drop-set-lt}
use Rattle.base_bounded.specs.Quantifiers.{tally}
use Rattle.base_bounded.proofs.Bools.{eq_or_not}
use Rattle.base_bounded.proofs.Quantifiers.{tally_less, tally_within}
use Rattle.walk_reach.specs.Internal.Reach.{ChosenOf}
use Rattle.walk_reach.specs.Internal.Frontier.{visited, seen_with, queue_with, tail_with, Frontier, Grown}

module _ (seen : List Bool) (t : ℕ) where
  pub visited_set_same : t < length seen → visited (set seen t true) t ≡ true
  unfolding visited
  visited_set_same l = get_or-set_same seen t true false l

  pub visited_set_other : (u : ℕ) → (u ≡ t → ⊥) → visited (set seen t true) u ≡ visited seen u
  unfolding visited
  visited_set_other u f = get_or-set_other seen t u true false f

  pub visited_set : (u : ℕ) → t < length seen → visited seen u ≡ true → visited (set seen t true) u ≡ true
  visited_set u l e =
      ⊎_elim (λ q. ap (visited (set seen t true)) q ∙ visited_set_same l) (λ f. visited_set_other u f ∙ e) (eq_or_not u t)

  -- a state that is visited now was visited before, or is t
  pub visited_set_back : (u : ℕ) → visited (set seen t true) u ≡ true → (visited seen u ≡ true) ⊎ (u ≡ t)
  visited_set_back u e = ⊎_elim (λ q. inr q) (λ f. inl (sym (visited_set_other u f) ∙ e)) (eq_or_not u t)

-- while one of n states is not visited, the queue has capacity for one more
pub front_capacity : {n : ℕ} {seen : List Bool} {queue : List ℕ} {tail : ℕ} → Frontier n seen queue tail → (t : ℕ) → t < n → visited seen t ≡ false →
    (tail < n) × (tail + 1 ≤ tally n (visited (set seen t true)))
front_capacity {n} {seen} {queue} {tail} f t l e =
    let less : tally n (visited seen) < tally n (visited (set seen t true)) =
    tally_less (visited seen) (visited (set seen t true)) n (λ u k d. visited_set seen t u (omega (arith, f.seen_capacity)) d) l e
    (visited_set_same seen t (omega (arith, f.seen_capacity))) in
    (omega (arith, f.counted, tally_within (visited (set seen t true)) n), omega (arith, f.counted))

-- the frontier after the visit of a state that was not visited
module _ {n : ℕ} {seen : List Bool} {queue : List ℕ} {tail : ℕ} (f : Frontier n seen queue tail) (t : ℕ) (l : t < n) (e : visited seen t ≡ false) where
  in_seen : t < length seen
  in_seen = omega (arith, f.seen_capacity)

  in_capacity : tail < length queue
  in_capacity = omega (arith, f.queue_capacity, (front_capacity f t l e).0)

  pub front_new : Frontier n (set seen t true) (set queue tail t) (tail + 1)
  front_new = record {
    seen_capacity = simp length-set f.seen_capacity;
    queue_capacity = simp length-set f.queue_capacity;
    counted = (front_capacity f t l e).1;
    in_queue = λ u k d. ⊎_elim (λ b. old_place u (f.in_queue u k b)) (λ q. (tail, omega arith, get_or-set_same queue tail t 0 in_capacity ∙ sym q))
        (visited_set_back seen t u d);
    from_queue = λ q k. ⊎_elim (λ d. new_entry q d) (λ g. old_entry q (f.from_queue q (omega arith)) g) (eq_or_not q tail);
  } where
    old_place : (u : ℕ) → (q : ℕ) × (q < tail) × (get_or queue q 0 ≡ u) → (q : ℕ) × (q < tail + 1) × (get_or (set queue tail t) q 0 ≡ u)
    old_place u (q, k, d) = (q, omega arith, get_or-set_other queue tail q t 0 (λ g. omega arith) ∙ d)

    new_entry : (q : ℕ) → q ≡ tail → (get_or (set queue tail t) q 0 < n) × (visited (set seen t true) (get_or (set queue tail t) q 0) ≡ true)
    new_entry q d =
        let g : get_or (set queue tail t) q 0 ≡ t = rw d (get_or-set_same queue tail t 0 in_capacity) in
        (omega arith, ap (visited (set seen t true)) g ∙ visited_set_same seen t in_seen)

    old_entry : (q : ℕ) → (get_or queue q 0 < n) × (visited seen (get_or queue q 0) ≡ true) → (q ≡ tail → ⊥) →
        (get_or (set queue tail t) q 0 < n) × (visited (set seen t true) (get_or (set queue tail t) q 0) ≡ true)
    old_entry q (k, d) g =
        let h : get_or (set queue tail t) q 0 ≡ get_or queue q 0 = get_or-set_other queue tail q t 0 g in
        (omega arith, ap (visited (set seen t true)) h ∙ visited_set seen t _ in_seen d)

module _ (hs : List ℕ) (c : ℕ → Bool) (n v : ℕ) where
  module _ {seen : List Bool} {queue : List ℕ} {tail : ℕ} {seen₁ : List Bool} {queue₁ : List ℕ} {tail₁ : ℕ} (g : Grown hs c n v seen queue tail seen₁ queue₁ tail₁)
      (t : ℕ) (l : t < n) (r : ChosenOf hs c v t) where
    grown_new : visited seen₁ t ≡ false → Grown hs c n v seen queue tail (set seen₁ t true) (set queue₁ tail₁ t) (tail₁ + 1)
    grown_new e = record {
      front = front_new g.front t l e;
      kept = λ u d. visited_set seen₁ t u (in_seen g.front t l e) (g.kept u d);
      new = λ u d. ⊎_elim (λ b. g.new u b) (λ q. inr (rw q r)) (visited_set_back seen₁ t u d);
      same_queue = λ q k. get_or-set_other queue₁ tail₁ q t 0 (λ d. omega (arith, g.tail_later)) ∙ g.same_queue q k;
      tail_later = omega (arith, g.tail_later);
      rest = drop-set-lt n seen₁ t true l ∙ g.rest;
      seen_length = simp length-set g.seen_length;
      queue_length = simp length-set g.queue_length;
    }

    -- the frontier grows by a visit of the end of a chosen hop of v
    pub grown_visit : Grown hs c n v seen queue tail (seen_with seen₁ t) (queue_with seen₁ queue₁ tail₁ t) (tail_with seen₁ tail₁ t)
    grown_visit = go (visited seen₁ t) refl where
      go : (x : Bool) → visited seen₁ t ≡ x → Grown hs c n v seen queue tail (cond x seen₁ (set seen₁ t true)) (cond x queue₁ (set queue₁ tail₁ t)) (cond x tail₁ (tail₁ + 1))
      go true e = g
      go false e = grown_new e

-- after it, t is visited
pub visited_with : (seen : List Bool) (t : ℕ) → t < length seen → visited (seen_with seen t) t ≡ true
visited_with seen t l = go (visited seen t) refl where
  go : (x : Bool) → visited seen t ≡ x → visited (cond x seen (set seen t true)) t ≡ true
  go true e = e
  go false e = visited_set_same seen t l

-- and what was visited still is
pub visited_kept : (seen : List Bool) (t u : ℕ) → t < length seen → visited seen u ≡ true → visited (seen_with seen t) u ≡ true
visited_kept seen t u l d = go (visited seen t) refl where
  go : (x : Bool) → visited seen t ≡ x → visited (cond x seen (set seen t true)) u ≡ true
  go true e = d
  go false e = visited_set seen t u l d
