-- The passes over the order. After k steps a table is what the marked hops visited bring, if each
-- step adds to what those before it bring; that it does is what a topological order is for; and the
-- marked hops that a pass visits are the set that the marks are. Assumes nothing.
use Prim.Native.Nat.{ℕ, zero, suc, ◌+◌, ◌<◌, ◌≤◌}
use mathlib.Core.Path.{◌≡◌, refl, sym, ap, ◌∙◌}
use mathlib.Core.Bool.{Bool, true, false, cond, not, ◌&&◌, ◌||◌}
use mathlib.Core.List.{List}
use mathlib.Core.Logic.{◌⊎◌, inl, inr, ⊎_elim}
use native.Mathlib.Numerals.{add-one}
use native.Mathlib.Omega.{arith}
use lib.ListN.{length, get_or, length-set}
use lib.Dec.{eqb}
use Rattle.base_bounded.proofs.Bools.{clash, eq_or_not}
use Rattle.graph.specs.Hops.{count, from, to}
use Rattle.graph.specs.Answers.{most_states}
use Rattle.graph.proofs.Places.{is_yes, is_from, is_label, is_to}
use Rattle.graph_successors.specs.Internal.SuccessorIndex.{Indexable}
use Rattle.base_fixpoint.specs.Pairs.{In}
use Rattle.lts.specs.Closes.{Reach, single, walks}
use Rattle.mark_confluence.specs.Internal.MarkSet.{is_marked, mark_set}
use Rattle.mark_confluence.proofs.MarkSet.{mark_set_says, mark_set_yes}
use Rattle.walk_topological_order.specs.Internal.TopologicalOrder.{TopologicalOrder}
use Rattle.base_bitset.specs.Internal.Bits.{bit_in}
use Rattle.base_bitset.proofs.Laws.{table_or, word_of}
use Rattle.mark_batch_spread.specs.Internal.Spread.{SpreadBack, SpreadForth}
use Rattle.mark_batch_spread.specs.Internal.Step.{visit_at, visited_hop, end_at, spread_to, step_at, spread_along, spread_over}
use Rattle.mark_batch_spread.proofs.Steps.{More, Further, SpreadStep, forth_none, forth_same, forth_back, forth_more, walks_further, single_further}

-- both ends of a hop are states
pub end_in : {hs : List ℕ} (ready : Indexable hs) (back : Bool) {i : ℕ} → i < count hs → end_at hs back i < most_states
end_in ready true {i} l = ready.to_in i l
end_in ready false {i} l = ready.from_in i l

-- what `spread_to` leaves: the bits of s added to t
spread_step : (ws : List ℕ) (s t : ℕ) → t < length ws → SpreadStep s t ws (spread_to ws s t)
spread_step ws s t l z b = table_or ws t (get_or ws s 0) z b l ∙ ap (λ (x : Bool). bit_in ws z b || (eqb z t && x)) (word_of ws s b)

module _ (hs ms : List ℕ) (back : Bool) (place : ℕ → ℕ) where
  -- the step after k others: whether it is made, and its ends
  abbrev on : ℕ → Bool
  on k = is_marked ms (place k)

  abbrev origin : ℕ → ℕ
  origin k = end_at hs back (place k)

  abbrev receiver : ℕ → ℕ
  receiver k = end_at hs (not back) (place k)

  -- one of the first k steps is from x to y
  abbrev Done : ℕ → ℕ → ℕ → Type 0
  Done k x y = (j : ℕ) × (j < k) × (on j ≡ true) × (origin j ≡ x) × (receiver j ≡ y)

  -- each of n steps adds to what those before it bring
  abbrev AllFurther : ℕ → Reach → Type 0
  AllFurther n r = (k : ℕ) → k < n → on k ≡ true → Further (Done k) (Done (suc k)) r (origin k) (receiver k)

  module _ {k : ℕ} where
    done_kept : (x y : ℕ) → Done k x y → Done (suc k) x y
    done_kept x y (j, l, o, f, t) = (j, omega arith, o, f, t)

    -- a step more, or none where it is not on
    done_more : on k ≡ true → More (Done k) (Done (suc k)) (origin k) (receiver k)
    done_more o = record { kept = done_kept; new = (k, omega arith, o, refl, refl); only = only } where
      only : (x y : ℕ) → Done (suc k) x y → Done k x y ⊎ ((x ≡ origin k) × (y ≡ receiver k))
      only x y (j, l, m, f, t) =
          ⊎_elim (λ e. inr (sym f ∙ ap origin e, sym t ∙ ap receiver e)) (λ n. inl (j, omega arith, m, f, t)) (eq_or_not j k)

    done_over : on k ≡ false → (x y : ℕ) → Done (suc k) x y → Done k x y
    done_over o x y (j, l, m, f, t) = ⊎_elim (λ e. clash m (ap on e ∙ o)) (λ n. (j, omega arith, m, f, t)) (eq_or_not j k)

  module _ (ws : List ℕ) where
    abbrev after : ℕ → List ℕ
    after k = spread_along hs ms back place k ws

    pub along_none : ws ≡ after 0
    unfolding spread_along
    along_none = refl

    -- one step more, as the code counts
    pub along_more : (k : ℕ) {i : ℕ} {now next : List ℕ} → i ≡ place k → now ≡ after k → next ≡ step_at hs ms back i now →
        next ≡ after (k + 1)
    unfolding spread_along
    along_more k q e f = rw (add-one, ← q, ← e) f

    length_along : (k : ℕ) → length (after k) ≡ length ws
    unfolding spread_along
    length_along zero = refl
    length_along (suc k) = go (on k) ∙ length_along k where
      go : (b : Bool) → length (cond b (spread_to (after k) (origin k) (receiver k)) (after k)) ≡ length (after k)
      go true = simp length-set
      go false = refl

    module _ {n : ℕ} {r : Reach} (fits : (k : ℕ) → k < n → receiver k < length ws) (further : AllFurther n r) where
      forth_after : (k : ℕ) → k ≤ n → SpreadForth (Done k) r ws (after k)
      unfolding spread_along
      forth_after zero h = forth_none (λ x y (j, l, o, f, t). omega arith) ws
      forth_after (suc k) h = go (on k) refl (forth_after k (omega arith)) where
        go : (b : Bool) → on k ≡ b → SpreadForth (Done k) r ws (after k) →
            SpreadForth (Done (suc k)) r ws (cond b (spread_to (after k) (origin k) (receiver k)) (after k))
        go true o =
            forth_more (further k (omega arith) o) ws (after k) (spread_to (after k) (origin k) (receiver k))
            (spread_step (after k) (origin k) (receiver k) (rw length_along (fits k (omega arith))))
        go false o = forth_same ws (after k) done_kept (done_over o)

-- a pass visits each place once
pub visit_below : {n k : ℕ} (down : Bool) → k < n → visit_at n down k < n
visit_below true h = omega arith
visit_below false h = omega arith

visit_again : {n k : ℕ} (down : Bool) → k < n → visit_at n down (visit_at n down k) ≡ k
visit_again true h = omega arith
visit_again false h = refl

module _ {hs sorted : List ℕ} {n : ℕ} (l : TopologicalOrder hs sorted n) (ms : List ℕ) where
  module _ (down : Bool) where
    abbrev place : ℕ → ℕ
    place = visited_hop sorted n down

    -- the marked hops that a pass visits are the set that the marks are
    held : {x y k : ℕ} → k < n → is_marked ms (place k) ≡ true → from hs (place k) ≡ x → to hs (place k) ≡ y → In (mark_set hs ms) x y
    held {x} {y} {k} h o f t =
        let v = visit_below down h in
        mark_set_yes hs ms x y (l.within (visit_at n down k) v) (is_yes hs x 0 y (place k) f (l.silent (visit_at n down k) v) t) o

    found : (x y : ℕ) → In (mark_set hs ms) x y → Done hs ms false place n x y
    found x y e =
        let (i, m, p, o) = mark_set_says hs ms x y e in
        let (k, h, q) = l.every i m (is_label hs x 0 y i p) in
        let w : place (visit_at n down k) ≡ i = ap (λ (j : ℕ). get_or sorted j 0) (visit_again down h) ∙ q in
        (visit_at n down k, visit_below down h, ap (is_marked ms) w ∙ o, ap (from hs) w ∙ is_from hs x 0 y i p, ap (to hs) w ∙ is_to hs x 0 y i p)

    module _ (ready : Indexable hs) (ws : List ℕ) (s : length ws ≡ most_states) {r : Reach} where
      -- so a pass leaves what that set brings, along its hops or against them
      forth_visited : (back : Bool) → AllFurther hs ms back place n r → SpreadForth (Done hs ms back place n) r ws (spread_over hs ms sorted n down back ws)
      forth_visited back further = forth_after hs ms back place ws fits further n (omega arith) where
        fits : (k : ℕ) → k < n → end_at hs (not back) (place k) < length ws
        fits k h = omega (arith, end_in ready (not back) (l.within (visit_at n down k) (visit_below down h)))

      forth_all : AllFurther hs ms false place n r → SpreadForth (In (mark_set hs ms)) r ws (spread_over hs ms sorted n down false ws)
      forth_all further =
          forth_same ws (spread_over hs ms sorted n down false ws) (λ x y (k, h, o, f, t). held h o f t) found (forth_visited false further)

      back_all : AllFurther hs ms true place n r → SpreadBack (In (mark_set hs ms)) r ws (spread_over hs ms sorted n down true ws)
      back_all further =
          forth_back ws (spread_over hs ms sorted n down true ws) (λ x y (k, h, o, f, t). held h o t f)
          (λ x y e. let (k, h, o, f, t) = found x y e in (k, h, o, t, f)) (forth_visited true further)

  -- by the order no step so far begins where the step at k ends, or ends where it begins
  module _ (ready : Indexable hs) (ws : List ℕ) (s : length ws ≡ most_states) where
    pub gathered : SpreadBack (In (mark_set hs ms)) walks ws (spread_over hs ms sorted n false true ws)
    gathered = back_all false ready ws s (λ k h o. walks_further (done_more hs ms true (visited_hop sorted n false) o)
        (λ y (j, b, m, f, t). omega (arith, l.order j k (omega arith) h f)))

    pub passed_once : SpreadForth (In (mark_set hs ms)) single ws (spread_over hs ms sorted n false false ws)
    passed_once = forth_all false ready ws s (λ k h o. single_further (done_more hs ms false (visited_hop sorted n false) o)
        (λ x (j, b, m, f, t). omega (arith, l.order j k (omega arith) h t)))

    pub passed_on : SpreadForth (In (mark_set hs ms)) walks ws (spread_over hs ms sorted n true false ws)
    passed_on = forth_all true ready ws s (λ k h o. walks_further (done_more hs ms false (visited_hop sorted n true) o)
        (λ y (j, b, m, f, t). omega (arith, l.order (visit_at n true k) (visit_at n true j) (visit_below true h) (visit_below true (omega arith)) (sym f))))
