-- Laws of hop lists by their places, over graph's: a whole list is the flat list of its hops, and
-- hops that are put at place 0, 1, .. stand in front one after the other. Assumes nothing.
use Prim.Native.Nat.{ℕ, zero, suc, ◌+◌, ◌%◌, ◌<◌, ◌≤◌}
use mathlib.Core.Path.{◌≡◌, refl, sym, ap, ◌∙◌}
use mathlib.Core.List.{List, [], ◌∷◌, ◌++◌, append-nil}
use mathlib.Core.Logic.{⊎_elim}
use native.Mathlib.Nat.{eq-or-lt_of_le, le_of_suc-le-suc, not-suc-le-zero}
use native.Mathlib.Numerals.{add-one}
use native.Mathlib.Omega.{arith}
use lib.ListN.{length, get_or, drop, length-append, get_or-append}
use lib.Seq.{drop-length, get_or_at, set_at, ext_get_or}
use Rattle.graph.specs.Hops.{numbers_a_hop, number_place, count, hop_at, flat}
use Rattle.graph.specs.Internal.Hops.{no_hop, front, over, put}
use Rattle.graph.specs.declared.Hop.{Hop}
use Rattle.graph.proofs.Fronts.{length_front, get_d_front, over_front, front_over, over_over, put_over, length_over}
use Rattle.graph.proofs.Places.{length_flat, count_flat, flat_at}
use Rattle.file_hops.specs.Field.{hops_by}

-- the hops that a function returns
module _ (f : ℕ → Hop) where
  pub length_by : (n : ℕ) → length (hops_by n f) ≡ n
  unfolding hops_by
  length_by zero = refl
  length_by (suc n) = rw (length-append, length_by n, add-one)

  pub get_d_by : (n : ℕ) {i : ℕ} → i < n → get_or (hops_by n f) i no_hop ≡ f i
  unfolding hops_by
  get_d_by zero l = absurd (not-suc-le-zero l)
  get_d_by (suc n) {i} l =
      ⊎_elim (λ q. get_or_at (hops_by n f) (f n) [] no_hop i (length_by n ∙ sym q) ∙ ap f (sym q))
      (λ m. get_or-append (hops_by n f) (f n ∷ []) no_hop i (rw (length_by n) m) ∙ get_d_by n m)
      (eq-or-lt_of_le (le_of_suc-le-suc l))

  pub length_flat_by : (n : ℕ) → length (flat (hops_by n f)) ≡ number_place n
  length_flat_by n = length_flat (hops_by n f) ∙ ap number_place (length_by n)

  pub count_flat_by : (n : ℕ) → count (flat (hops_by n f)) ≡ n
  count_flat_by n = count_flat (hops_by n f) ∙ length_by n

  pub flat_by_at : (n : ℕ) {i : ℕ} → i < n → hop_at (flat (hops_by n f)) i ≡ f i
  flat_by_at n {i} l = flat_at (hops_by n f) i ∙ get_d_by n l

-- a whole list is the flat list of its hops
pub flat_front : (hs : List ℕ) → length hs % numbers_a_hop ≡ 0 → flat (front (count hs) hs) ≡ hs
unfolding over
flat_front hs w = sym (append-nil (flat (front (count hs) hs))) ∙ ap (λ (l : List ℕ). flat (front (count hs) hs) ++ l) (sym nothing_past) ∙ over_front hs (count hs) (omega arith) where
  as_long : length (flat (front (count hs) hs)) ≡ length hs
  as_long = omega (arith, length_flat (front (count hs) hs), length_front hs (count hs))

  nothing_past : drop (length (flat (front (count hs) hs))) hs ≡ []
  nothing_past = rw as_long (drop-length hs)

-- and so of any hops that are those at its places
pub flat_by : (f : ℕ → Hop) (hs : List ℕ) → length hs % numbers_a_hop ≡ 0 → ((i : ℕ) → i < count hs → f i ≡ hop_at hs i) → flat (hops_by (count hs) f) ≡ hs
flat_by f hs w e = ap flat same ∙ flat_front hs w where
  same : hops_by (count hs) f ≡ front (count hs) hs
  same =
      ext_get_or no_hop (hops_by (count hs) f) (front (count hs) hs) (length_by f (count hs) ∙ sym (length_front hs (count hs)))
      (λ i l. let m : i < count hs = omega (arith, length_by f (count hs)) in get_d_by f (count hs) m ∙ e i m ∙ sym (get_d_front hs (count hs) m))

-- one hop more behind those that stand in front
pub over_next : (xs : List Hop) (old : List ℕ) (h : Hop) → length xs < count old → put (over xs old) (length xs) h ≡ over (xs ++ (h ∷ [])) old
unfolding front
over_next xs old h l =
    ap (λ (m : List ℕ). put m (length xs) h) (sym one_more) ∙ put_over old h (xs ++ (there ∷ [])) (rw length-append (omega arith)) ∙
    ap (λ (ys : List Hop). over ys old) (set_at xs there [] h (length xs) refl) where
      there : Hop
      there = hop_at (over xs old) (length xs)

      firsts : front (length xs + 1) (over xs old) ≡ xs ++ (there ∷ [])
      firsts = rw (add-one (length xs), front_over old xs)

      one_more : over (xs ++ (there ∷ [])) old ≡ over xs old
      one_more =
          sym (over_over old xs (xs ++ (there ∷ [])) (rw length-append (omega arith))) ∙ ap (λ (ys : List Hop). over ys (over xs old)) (sym firsts) ∙
          over_front (over xs old) (length xs + 1) (omega (arith, length_over old xs (omega arith)))

-- the hops that a function returns, put one after the other
module _ (f : ℕ → Hop) (old : List ℕ) where
  pub by_none : old ≡ over (hops_by 0 f) old
  unfolding hops_by over flat
  by_none = refl

  pub by_more : {out : List ℕ} {i : ℕ} {h : Hop} → out ≡ over (hops_by i f) old → h ≡ f i → i < count old → put out i h ≡ over (hops_by (i + 1) f) old
  unfolding hops_by
  by_more {i = i} e d l =
      rw (e, d, add-one i)
      (ap (λ (k : ℕ). put (over (hops_by i f) old) k (f i)) (sym (length_by f i)) ∙ over_next (hops_by i f) old (f i) (rw (length_by f i) l))

  pub by_done : {out : List ℕ} {i n : ℕ} → out ≡ over (hops_by i f) old → i ≤ n → n ≤ i → out ≡ over (hops_by n f) old
  by_done {i = i} {n = n} e l m = let q : n ≡ i = omega arith in rw q e
