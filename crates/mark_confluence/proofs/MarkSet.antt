-- The set that marks are, by places: in an ascending list a silent hop is in it exactly when its
-- own mark is 1. Assumes nothing.
use Rattle.std.proofs.Common.{Result, Ok, Err}
use Prim.Native.Nat.{ℕ, ◌<◌}
use mathlib.Core.Path.{◌≡◌, sym, ◌∙◌}
use mathlib.Core.Bool.{true, false}
use mathlib.Core.List.{List}
use mathlib.Core.Logic.{⊎_elim}
use lib.ListN.{length, set}
use lib.Seq.{get_or-set_same, get_or-set_other}
use Rattle.graph.specs.Hops.{count, hop_of, is, has}
use Rattle.graph.specs.Order.{Ascending}
use Rattle.graph.specs.Internal.Search.{placed}
use Rattle.graph.specs.declared.Hop.{Hop}
use Rattle.base_bounded.proofs.Bools.{clash, eq_or_not, and_yes, and_left, and_right, same_test, no_test}
use Rattle.base_bounded.proofs.Quantifiers.{any_at, any_found}
use Rattle.graph.proofs.Lookup.{one_place, at_place, gap_has}
use Rattle.mark_confluence.specs.Internal.MarkSet.{is_marked, mark_set_at, mark_set}

module _ (hs ms : List ℕ) where
  -- a place of the hop s to t that is marked
  pub mark_set_says : (s t : ℕ) → mark_set hs ms s t ≡ true → (i : ℕ) × (i < count hs) × (is hs s 0 t i ≡ true) × (is_marked ms i ≡ true)
  unfolding mark_set mark_set_at
  mark_set_says s t e =
      let (i, l, h) = any_at (mark_set_at hs ms s t) (count hs) e in
      (i, l, and_left (is hs s 0 t i) (is_marked ms i) h, and_right (is hs s 0 t i) (is_marked ms i) h)

  pub mark_set_yes : (s t : ℕ) {i : ℕ} → i < count hs → is hs s 0 t i ≡ true → is_marked ms i ≡ true → mark_set hs ms s t ≡ true
  unfolding mark_set mark_set_at
  mark_set_yes s t l h m = any_found (mark_set_at hs ms s t) (count hs) l (and_yes h m)

  module _ (up : Ascending hs) where
    -- a hop stands at one place only, so its mark is whether the set holds it
    pub mark_set_at_lem : (s t : ℕ) {i : ℕ} → i < count hs → is hs s 0 t i ≡ true → is_marked ms i ≡ mark_set hs ms s t
    mark_set_at_lem s t {i} l p = same_test (is_marked ms i) (mark_set hs ms s t) (mark_set_yes s t l p) back where
      back : mark_set hs ms s t ≡ true → is_marked ms i ≡ true
      back e = let (j, m, q, h) = mark_set_says s t e in rw (one_place hs up s 0 t l m p q) h

    -- the search finds it
    module _ (s t : ℕ) {h : Hop} {f : Result ℕ ℕ} {p : ℕ} (q : h ≡ hop_of s 0 t) (e : f ≡ placed hs h) where
      pub mark_set_found : f ≡ Ok p → (p < count hs) × (is_marked ms p ≡ mark_set hs ms s t)
      mark_set_found d =
          let found : placed hs (hop_of s 0 t) ≡ Ok p = rw q at (sym e ∙ d) in
          let (l, i) = at_place hs (hop_of s 0 t) found in (l, mark_set_at_lem s t l i)

      pub mark_set_missing : f ≡ Err p → false ≡ mark_set hs ms s t
      unfolding has
      mark_set_missing d =
          let gap : placed hs (hop_of s 0 t) ≡ Err p = rw q at (sym e ∙ d) in
          sym (no_test (mark_set hs ms s t) (λ h. let (i, l, f, m) = mark_set_says s t h in
          clash (any_found (is hs s 0 t) (count hs) l f) (gap_has hs (hop_of s 0 t) up gap)))

-- the mark at place i is taken: it is none any more, and every other mark is as it was
module _ (ms : List ℕ) {i : ℕ} (l : i < length ms) where
  pub taken_here : is_marked (set ms i 0) i ≡ false
  unfolding is_marked
  taken_here = rw (get_or-set_same ms i 0 0 l)

  pub taken_there : (j : ℕ) → (j ≡ i → ⊥) → is_marked (set ms i 0) j ≡ is_marked ms j
  unfolding is_marked
  taken_there j n = rw (get_or-set_other ms i j 0 0 n)

  pub taken_only : (j : ℕ) → is_marked (set ms i 0) j ≡ true → is_marked ms j ≡ true
  taken_only j e = ⊎_elim (λ q. clash (rw q at e) taken_here) (λ n. sym (taken_there j n) ∙ e) (eq_or_not j i)
