-- Laws of the flat hop list: what a place holds, and that the graph has a hop exactly when some
-- place holds it. Assumes nothing.
use Prim.Native.Nat.{ℕ, zero, suc, ◌+◌, ◌<◌}
use mathlib.Core.Path.{◌≡◌, refl, ◌∙◌}
use mathlib.Core.Bool.{true}
use mathlib.Core.List.{List, [], ◌∷◌}
use native.Mathlib.Numerals.{add-one, add-two, add-three}
use native.Mathlib.Omega.{arith}
use borrow.Author.Tests.{eq-eqb, eqb-true}
use lib.ListN.{length, get_or}
use lib.Dec.{eqb}
use Rattle.std.proofs.lemmas.Bool.{and_from, and_parts}
use Rattle.graph.specs.Hops.{count, from, label, to, lined_hop, hop_of, hop_at, Alike, same, number_place, flat, is, labelled, has}
use Rattle.graph.specs.Internal.Hops.{no_hop}
use Rattle.graph.specs.declared.Hop.{Hop}
use Rattle.base_bounded.proofs.Quantifiers.{any_found, any_at}

-- two hops pass the test of being alike exactly when they are
pub same_alike : (a b : Hop) → same a b ≡ true → Alike a b
same_alike a b e = let rest = (and_parts (eqb a.from b.from) _ e).1 in
    record {
      same_from = eqb-true _ _ (and_parts (eqb a.from b.from) _ e).0;
      same_label = eqb-true _ _ (and_parts (eqb a.label b.label) _ rest).0;
      same_to = eqb-true _ _ (and_parts (eqb a.label b.label) _ rest).1;
    }

pub alike_same : {a b : Hop} → Alike a b → same a b ≡ true
alike_same q = rw (eq-eqb _ _ q.same_from, eq-eqb _ _ q.same_label, eq-eqb _ _ q.same_to)

-- the hop at a place is h: the two are alike
module _ (hs : List ℕ) (h : Hop) (i : ℕ) where
  pub is_alike : is hs h.from h.label h.to i ≡ true → Alike (hop_at hs i) h
  unfolding is
  is_alike e = same_alike (hop_at hs i) h e

  pub alike_is : Alike (hop_at hs i) h → is hs h.from h.label h.to i ≡ true
  unfolding is
  alike_is q = alike_same q

-- its three numbers are those of h
module _ (hs : List ℕ) (s a t i : ℕ) where
  pub is_yes : from hs i ≡ s → label hs i ≡ a → to hs i ≡ t → is hs s a t i ≡ true
  is_yes p q r = alike_is hs (hop_of s a t) i (record { same_from = p; same_label = q; same_to = r })

  pub is_from : is hs s a t i ≡ true → from hs i ≡ s
  is_from e = (is_alike hs (hop_of s a t) i e).same_from

  pub is_label : is hs s a t i ≡ true → label hs i ≡ a
  is_label e = (is_alike hs (hop_of s a t) i e).same_label

  pub is_to : is hs s a t i ≡ true → to hs i ≡ t
  is_to e = (is_alike hs (hop_of s a t) i e).same_to

-- the hop at a place is one of s labelled a
module _ (hs : List ℕ) (s a i : ℕ) where
  pub labelled_yes : from hs i ≡ s → label hs i ≡ a → labelled hs s a i ≡ true
  unfolding labelled
  labelled_yes p q = and_from _ _ (eq-eqb _ _ p) (eq-eqb _ _ q)

  pub labelled_parts : labelled hs s a i ≡ true → (from hs i ≡ s) × (label hs i ≡ a)
  unfolding labelled
  labelled_parts e = (eqb-true _ _ (and_parts (eqb (from hs i) s) _ e).0, eqb-true _ _ (and_parts (eqb (from hs i) s) _ e).1)

-- the hop at a place is a hop of the graph
pub has_at : (hs : List ℕ) {i : ℕ} → i < count hs → has hs (from hs i) (label hs i) (to hs i) ≡ true
unfolding has
has_at hs {i} l = any_found _ (count hs) l (is_yes hs _ _ _ i refl refl refl)

-- the place of a hop of the graph
pub record Place (hs : List ℕ) (s a t : ℕ) : Type 0 where
  pub at : ℕ
  pub within : at < count hs
  pub from_is : from hs at ≡ s
  pub label_is : label hs at ≡ a
  pub to_is : to hs at ≡ t

pub has_place : (hs : List ℕ) (s a t : ℕ) → has hs s a t ≡ true → Place hs s a t
unfolding has
has_place hs s a t e =
    let (i, l, h) = any_at (is hs s a t) (count hs) e in
    record { at = i; within = l; from_is = is_from hs s a t i h; label_is = is_label hs s a t i h; to_is = is_to hs s a t i h }

pub place_has : (hs : List ℕ) (s a t : ℕ) → Place hs s a t → has hs s a t ≡ true
unfolding has
place_has hs s a t p = any_found _ (count hs) p.within (is_yes hs s a t p.at p.from_is p.label_is p.to_is)

-- the flat list of a list of hops holds those hops
pub length_flat : (xs : List Hop) → length (flat xs) ≡ number_place (length xs)
unfolding flat
length_flat [] = refl
length_flat (x ∷ xs) = let h : length (flat xs) ≡ number_place (length xs) = length_flat xs in omega arith

pub count_flat : (xs : List Hop) → count (flat xs) ≡ length xs
count_flat xs = let h : length (flat xs) ≡ number_place (length xs) = length_flat xs in omega arith

pub flat_at : (xs : List Hop) (i : ℕ) → hop_at (flat xs) i ≡ get_or xs i no_hop
unfolding flat
flat_at [] i = refl
flat_at (x ∷ xs) zero = refl
flat_at (x ∷ xs) (suc i) = shift (number_place (suc i)) (number_place i) (omega arith) ∙ flat_at xs i where
  more : List ℕ
  more = x.from ∷ x.label ∷ x.to ∷ x.line ∷ flat xs

  shift : (m n : ℕ) → m ≡ suc (suc (suc (suc n))) →
      lined_hop (get_or more m 0) (get_or more (m + 1) 0) (get_or more (m + 2) 0) (get_or more (m + 3) 0) ≡
      lined_hop (get_or (flat xs) n 0) (get_or (flat xs) (n + 1) 0) (get_or (flat xs) (n + 2) 0) (get_or (flat xs) (n + 3) 0)
  shift m n e = rw (e, add-one, add-two, add-three, add-one, add-two, add-three)
