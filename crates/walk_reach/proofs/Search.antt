-- The breadth-first search: its invariant, that each step keeps it, and that at the end the visited
-- states are exactly those that s leads to. Assumes nothing.
use Prim.Native.Nat.{ℕ, ◌+◌, ◌<◌, ◌≤◌}
use mathlib.Core.Path.{◌≡◌, refl, sym, ap, ◌∙◌}
use mathlib.Core.Bool.{Bool, true, false}
use mathlib.Core.List.{List, ◌++◌}
use mathlib.Core.Logic.{⊎_elim}
use native.Mathlib.Omega.{arith}
use lib.ListN.{length, get_or, set, take, drop, replicate, length-append, length-drop, length-set, length-replicate, take-append-drop, get_or-append, get_or-replicate}
use lib.Seq.{ext_get_or, length-take-le, get_or-take, drop_at, drop-set-lt}
use Rattle.graph_check.specs.Check.{InRange}
use Rattle.graph.specs.declared.Shape.{Shape}
use Rattle.base_bounded.proofs.Bools.{clash, eq_or_not, no_test}
use Rattle.base_bounded.proofs.Quantifiers.{tally_within}
use Rattle.std.specs.Prelude.{map}
use Rattle.std.specs.List.{range_with_len}
use Rattle.std.proofs.lemmas.List.FromFn.{get_or-map-range_with_len, length-map-range_with_len}
use Rattle.lts.specs.Star.{Star, stay, go}
use Rattle.lts.proofs.Star.{one, join}
use Rattle.walk_reach.specs.Internal.Reach.{ChosenOf}
use Rattle.walk_reach.specs.Reach.{leads_by}
use Rattle.walk_reach.specs.Internal.Frontier.{visited, reached_flags, seen_with, queue_with, tail_with, Frontier, Expanded}
use Rattle.walk_reach.proofs.Leads.{chosen_end, leads_self, leads_walk, walk_leads}
use Rattle.walk_reach.proofs.Frontier.{visited_set_same, visited_set_back, front_new}

-- the states before `head` in the queue have been taken from it, and the ends of their chosen hops
-- are visited
pub record Search (hs : List ℕ) (c : ℕ → Bool) (n s : ℕ) (seen₀ : List Bool) (queue₀ : List ℕ) (seen : List Bool) (queue : List ℕ) (head tail : ℕ) : Type 0 where
  pub front : Frontier n seen queue tail
  pub head_within : head ≤ tail
  pub led : (t : ℕ) → t < n → visited seen t ≡ true → leads_by hs c n s t ≡ true
  pub started : visited seen s ≡ true
  pub done : (q : ℕ) → q < head → (u : ℕ) → ChosenOf hs c (get_or queue q 0) u → visited seen u ≡ true
  pub rest : drop n seen ≡ drop n seen₀
  pub seen_length : length seen ≡ length seen₀
  pub queue_length : length queue ≡ length queue₀

-- the flags cleared, and the empty queue
module _ (n : ℕ) (seen : List Bool) (queue : List ℕ) (a : n ≤ length seen) (b : n ≤ length queue) where
  abbrev clean : List Bool
  clean = replicate n false ++ drop n seen

  length_clean : length clean ≡ length seen
  length_clean = simp (length-append, length-drop) (omega (arith, length-replicate {A = Bool} n false))

  pub clean_visited : (t : ℕ) → t < n → visited clean t ≡ false
  unfolding visited
  clean_visited t l =
      get_or-append (replicate n false) (drop n seen) false t (rw (length-replicate {A = Bool} n false) l) ∙ get_or-replicate n t false false l

  clean_front : Frontier n clean queue 0
  clean_front = record {
    seen_capacity = rw length_clean a;
    queue_capacity = b;
    counted = omega arith;
    in_queue = λ t l e. clash e (clean_visited t l);
    from_queue = λ q l. absurd (omega arith);
  }

  -- the search begins with s visited
  pub search_starts : (hs : List ℕ) (c : ℕ → Bool) (s : ℕ) → s < n → {seen₀ seen₁ : List Bool} {queue₁ : List ℕ} {tail₁ : ℕ} → seen₀ ≡ clean → seen₁ ≡ seen_with seen₀ s →
      queue₁ ≡ queue_with seen₀ queue 0 s → tail₁ ≡ tail_with seen₀ 0 s → Search hs c n s seen queue seen₁ queue₁ 0 tail₁
  search_starts hs c s l z a' b' d = rw (a', b', d, z, clean_visited s l) begun where
    in_clean : s < length clean
    in_clean = rw length_clean (omega arith)

    begun : Search hs c n s seen queue (set clean s true) (set queue 0 s) 0 (0 + 1)
    begun = record {
      front = front_new clean_front s l (clean_visited s l);
      head_within = omega arith;
      led = λ t k e. ⊎_elim (λ d. clash d (clean_visited t k)) (λ q. rw q (leads_self hs c n s)) (visited_set_back clean s t e);
      started = visited_set_same clean s in_clean;
      done = λ q k. absurd (omega arith);
      rest = drop-set-lt n clean s true l ∙ drop_at (replicate n false) (drop n seen) n (length-replicate n false);
      seen_length = simp length-set length_clean;
      queue_length = simp length-set refl;
    }

pub search_tail : {hs : List ℕ} {c : ℕ → Bool} {n s : ℕ} {seen₀ : List Bool} {queue₀ : List ℕ} {seen : List Bool} {queue : List ℕ} {head tail : ℕ} → Search hs c n s seen₀ queue₀ seen queue head tail → tail ≤ n
search_tail {n = n} {seen = seen} a = omega (arith, a.front.counted, tally_within (visited seen) n)

module _ {sh : Shape} {hs : List ℕ} (ranged : InRange sh hs) {c : ℕ → Bool} {s : ℕ} {seen₀ : List Bool} {queue₀ : List ℕ} {seen : List Bool} {queue : List ℕ} {head tail : ℕ}
    (a : Search hs c sh.states s seen₀ queue₀ seen queue head tail) where
  -- a step: the state at `head` is taken
  pub search_steps : {seen' : List Bool} {queue' : List ℕ} {tail' : ℕ} → head < tail →
      Expanded hs c sh.states (get_or queue head 0) seen queue tail seen' queue' tail' →
      Search hs c sh.states s seen₀ queue₀ seen' queue' (head + 1) tail'
  search_steps {seen'} {queue'} l w = record {
    front = w.grown.front;
    head_within = omega (arith, w.grown.tail_later);
    led = λ t k e. ⊎_elim (a.led t k) (λ r. led_on t r) (w.grown.new t e);
    started = w.grown.kept s a.started;
    done = λ q k u r. ⊎_elim (λ e. here q e u r) (λ f. before q (omega arith) u r) (eq_or_not q head);
    rest = w.grown.rest ∙ a.rest;
    seen_length = w.grown.seen_length ∙ a.seen_length;
    queue_length = w.grown.queue_length ∙ a.queue_length;
  } where
    led_on : (t : ℕ) → ChosenOf hs c (get_or queue head 0) t → leads_by hs c sh.states s t ≡ true
    led_on t r =
        let (k, e) = a.front.from_queue head l in
        walk_leads ranged c (join (leads_walk hs c sh.states s (get_or queue head 0) (a.led (get_or queue head 0) k e)) (one r))

    here : (q : ℕ) → q ≡ head → (u : ℕ) → ChosenOf hs c (get_or queue' q 0) u → visited seen' u ≡ true
    here q e u r =
        let p : get_or queue' q 0 ≡ get_or queue head 0 = rw e (w.grown.same_queue head l) in
        w.every u (rw p at r)

    before : (q : ℕ) → q < head → (u : ℕ) → ChosenOf hs c (get_or queue' q 0) u → visited seen' u ≡ true
    before q k u r = w.grown.kept u (a.done q k u (rw (w.grown.same_queue q (omega arith)) at r))

  module _ (over : tail ≤ head) where
    -- the visited states are closed under chosen hops
    closed : (u t : ℕ) → u < sh.states → visited seen u ≡ true → ChosenOf hs c u t → visited seen t ≡ true
    closed u t l e r =
        let (q, k, d) = a.front.in_queue u l e in
        a.done q (omega arith) t (rw d r)

    all_visited : {u t : ℕ} → u < sh.states → visited seen u ≡ true → Star (ChosenOf hs c) u t → visited seen t ≡ true
    all_visited l e stay = e
    all_visited {u} l e (go {m} r p) = all_visited (chosen_end ranged c r) (closed u m l e r) p

    noted_leads : s < sh.states → (t : ℕ) → t < sh.states → visited seen t ≡ leads_by hs c sh.states s t
    noted_leads m t l = at (leads_by hs c sh.states s t) refl where
      at : (x : Bool) → leads_by hs c sh.states s t ≡ x → visited seen t ≡ x
      at true e = all_visited m a.started (leads_walk hs c sh.states s t e)
      at false e = no_test (visited seen t) (λ d. clash (a.led t l d) e)

    -- at the end the flags are those of the states that s leads to
    pub search_ends : s < sh.states → seen ≡ reached_flags hs c sh.states s ++ drop sh.states seen₀
    unfolding reached_flags visited
    search_ends m =
        sym (take-append-drop sh.states seen) ∙ ap (λ (l : List Bool). l ++ drop sh.states seen) fronts ∙ ap (λ (l : List Bool). map test (range_with_len 0 sh.states) ++ l) a.rest where
          test : ℕ → Bool
          test t = leads_by hs c sh.states s t

          size : length (take sh.states seen) ≡ sh.states
          size = length-take-le sh.states seen a.front.seen_capacity

          fronts : take sh.states seen ≡ map test (range_with_len 0 sh.states)
          fronts = ext_get_or false _ _ (size ∙ sym (length-map-range_with_len test 0 sh.states))
              (λ i l. let k : i < sh.states = omega (arith, size) in
              get_or-take sh.states seen i false k ∙ noted_leads m i k ∙ sym (get_or-map-range_with_len test 0 sh.states i i false k (omega arith)))

-- what the flags that a search leaves say of a state
module _ (hs : List ℕ) (c : ℕ → Bool) (n s : ℕ) (rest : List Bool) (t : ℕ) (l : t < n) where
  pub visited_reached : visited (reached_flags hs c n s ++ rest) t ≡ leads_by hs c n s t
  unfolding visited reached_flags
  visited_reached =
      get_or-append (map test (range_with_len 0 n)) rest false t (rw (length-map-range_with_len test 0 n) l) ∙ get_or-map-range_with_len test 0 n t t false l (omega arith) where
        test : ℕ → Bool
        test t = leads_by hs c n s t
