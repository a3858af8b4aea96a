-- Lines through the repetition: "each reduction's rule in turn" is the smallest nonzero line among
-- the hops of the first graph that a hop of the last comes from through all reductions. Assumes
-- nothing.
use Prim.Native.Nat.{ℕ, zero, suc, ◌<◌}
use mathlib.Core.Path.{◌≡◌, refl, sym, ap, ◌∙◌}
use mathlib.Core.Bool.{Bool, true, false, cond, ◌&&◌}
use mathlib.Core.List.{List}
use native.Mathlib.Nat.{le_refl}
use native.Mathlib.Omega.{arith}
use Rattle.std.proofs.lemmas.Bool.{and_from, and_parts}
use Rattle.graph.specs.Hops.{count, from, line_at, hop_at, Alike, same, flat}
use Rattle.graph.specs.Order.{Ascending}
use Rattle.graph.specs.declared.Hop.{Hop}
use Rattle.graph.specs.declared.Shape.{Shape}
use Rattle.graph.proofs.Places.{same_alike, alike_same, has_place, has_at}
use Rattle.graph.proofs.Ordered.{alike_itself, alike_back, alike_then, ascending_place}
use Rattle.base_fixpoint.specs.Pairs.{Pairs}
use Rattle.reduce_smallest_line.specs.Internal.Lines.{smallest_line}
use Rattle.reduce_smallest_line.specs.Lines.{Smallest}
use Rattle.reduce_smallest_line.proofs.Lines.{smallest_is, smallest_only}
use Rattle.reduce_representatives.specs.Representative.{is_normal, new_of, map_of}
use Rattle.reduce_short_graph.specs.Short.{becomes, image, short_hops, comes_from}
use Rattle.reduce_short_graph.proofs.Images.{short_ascending, short_has}
use Rattle.reduce_short_graph.proofs.Lines.{short_line_smallest}
use Rattle.shrink_iterate.specs.Iterate.{Stage, next_stage, stage_marked, marks_some, iterated, comes_through, last_comes_from, first_stage, last_stage, last_of}

-- hops that are alike become hops that are alike, and come to the same hops in the end
module _ (sh : Shape) (hs : List ℕ) (u : Pairs) where
  becomes_alike : {x y : Hop} → Alike x y → Alike (becomes sh hs u x) (becomes sh hs u y)
  becomes_alike e = record { same_from = ap (new_of hs u) e.same_from; same_label = e.same_label; same_to = ap (map_of sh hs u) e.same_to }

through_alike : (k n : ℕ) (g : Stage) (h : Hop) {x y : Hop} → Alike x y → comes_through k n g h x ≡ true → comes_through k n g h y ≡ true
unfolding comes_through
through_alike k zero g h {x} {y} e c = alike_same (alike_then (alike_back e) (same_alike x h c))
through_alike k (suc n) g h {x} {y} e c = go (marks_some k g) (λ d. through_alike k n (next_stage k g) h (becomes_alike g.shape g.hops (stage_marked k g) e) d) c where
  on : Hop → Bool
  on z = is_normal g.hops (stage_marked k g) z.from && comes_through k n (next_stage k g) h (becomes g.shape g.hops (stage_marked k g) z)

  go : (m : Bool) →
      (comes_through k n (next_stage k g) h (becomes g.shape g.hops (stage_marked k g) x) ≡ true →
      comes_through k n (next_stage k g) h (becomes g.shape g.hops (stage_marked k g) y) ≡ true) → cond m (on x) (same x h) ≡ true → cond m (on y) (same y h) ≡ true
  go true ih d =
      and_from _ _ (ap (is_normal g.hops (stage_marked k g)) (sym e.same_from) ∙ (and_parts (is_normal g.hops (stage_marked k g) x.from) _ d).0) (ih (and_parts (is_normal g.hops (stage_marked k g) x.from) _ d).1)
  go false ih d = alike_same (alike_then (alike_back e) (same_alike x h d))

-- a hop that comes from itself alone has its own line
own_line : (hs : List ℕ) → Ascending hs → {p : ℕ} → p < count hs → Smallest (λ (i : ℕ). same (hop_at hs i) (hop_at hs p)) (line_at hs) (count hs) (line_at hs p)
own_line hs up {p} l = record {
  one_of_theirs = λ _. (p, l, alike_same (alike_itself (hop_at hs p)), refl);
  none_smaller = λ i m e k. let q : i ≡ p = ascending_place hs up m l (same_alike (hop_at hs i) (hop_at hs p) e) in (rw q at k, rw q (le_refl (line_at hs p)));
}

-- one reduction: if l is the smallest of the lines that come on from the short graph, it is the
-- smallest of those that come on from the graph itself
module _ (sh : Shape) (hs : List ℕ) (u : Pairs) (on : Hop → Bool) (alike : (x y : Hop) → Alike x y → on x ≡ true → on y ≡ true) where
  abbrev short : List ℕ
  short = flat (short_hops sh hs u)

  -- the place in the short graph of what the hop at place i becomes
  place : (i : ℕ) → i < count hs → is_normal hs u (from hs i) ≡ true → (j : ℕ) × (j < count short) × Alike (hop_at short j) (image sh hs u i)
  place i l e =
      let p = has_place short _ _ _ (short_has sh hs u _ _ _ (from hs i, _, e, has_at hs l, refl, refl)) in
      (p.at, p.within, record { same_from = p.from_is; same_label = p.label_is; same_to = p.to_is })

  back_one : {l : ℕ} → Smallest (λ (j : ℕ). on (hop_at short j)) (line_at short) (count short) l →
      Smallest (λ (i : ℕ). is_normal hs u (from hs i) && on (image sh hs u i)) (line_at hs) (count hs) l
  unfolding comes_from
  back_one {l} s = record {
    one_of_theirs = λ k.
        let (j, m, c, q) = s.one_of_theirs k in
        let (i, v, d, r) = (short_line_smallest sh hs u m).one_of_theirs (rw q k) in (
          i,
          v,
          and_from _ _ (and_parts (is_normal hs u (from hs i)) _ d).0 (alike _ _ (alike_back (same_alike (image sh hs u i) (hop_at short j) (and_parts (is_normal hs u (from hs i)) _ d).1)) c),
          r ∙ q,
        );
    none_smaller = λ i m c k.
        let e = (and_parts (is_normal hs u (from hs i)) _ c).0 in
        let (j, v, q) = place i m e in
        let (x, y) = (short_line_smallest sh hs u v).none_smaller i m (and_from _ _ e (alike_same (alike_back q))) k in
        let (z, w) = s.none_smaller j v (alike _ _ (alike_back q) (and_parts (is_normal hs u (from hs i)) _ c).1) x in
        (z, omega (arith, w, y));
  }

-- the line of each hop of the last graph
module _ (k : ℕ) where
  abbrev pub Carried : ℕ → Stage → Stage → Type 0
  Carried n g z = (p : ℕ) → p < count z.hops →
      Smallest (λ (i : ℕ). comes_through k n g (hop_at z.hops p) (hop_at g.hops i)) (line_at g.hops) (count g.hops) (line_at z.hops p)

  pub iterated_line : (n : ℕ) (g : Stage) → Ascending g.hops → Carried n g (iterated k n g)
  unfolding iterated comes_through
  iterated_line zero g up = λ p l. own_line g.hops up l
  iterated_line (suc n) g up = go (marks_some k g) (λ p l. iterated_line n (next_stage k g) (short_ascending g.shape g.hops (stage_marked k g)) p l) where
    go : (m : Bool) → Carried n (next_stage k g) (iterated k n (next_stage k g)) → (p : ℕ) → p < count (cond m (iterated k n (next_stage k g)) g).hops →
        Smallest (λ (i : ℕ). cond m
        (is_normal g.hops (stage_marked k g) (from g.hops i) &&
        comes_through k n (next_stage k g) (hop_at (cond m (iterated k n (next_stage k g)) g).hops p) (image g.shape g.hops (stage_marked k g) i))
        (same (hop_at g.hops i) (hop_at (cond m (iterated k n (next_stage k g)) g).hops p))) (line_at g.hops) (count g.hops)
        (line_at (cond m (iterated k n (next_stage k g)) g).hops p)
    go true ih p l =
        back_one g.shape g.hops (stage_marked k g) (comes_through k n (next_stage k g) (hop_at (iterated k n (next_stage k g)).hops p))
        (λ x y e c. through_alike k n (next_stage k g) _ e c) (ih p l)
    go false ih p l = own_line g.hops up l

-- "the smallest nonzero line among the first graph's hops that a last hop comes from through all of
-- them", and what that means
module _ (k : ℕ) (sh : Shape) (hs : List ℕ) (up : Ascending hs) {p : ℕ} (l : p < count (last_stage k sh hs).hops) where
  pub last_line_smallest : Smallest (last_comes_from k sh hs p) (line_at hs) (count hs) (line_at (last_stage k sh hs).hops p)
  unfolding last_of
  last_line_smallest = iterated_line k sh.states (first_stage sh hs) up p l

  -- the same, as a definition that is computed
  pub last_line : line_at (last_stage k sh hs).hops p ≡ smallest_line (last_comes_from k sh hs p) (line_at hs) (count hs)
  last_line = smallest_only last_line_smallest (smallest_is (last_comes_from k sh hs p) (line_at hs) (count hs))
