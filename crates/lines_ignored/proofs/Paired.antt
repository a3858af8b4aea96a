-- Lists of hops that are alike place by place: hops that are alike, put into such lists, leave such
-- lists, so what is collected of hops that are alike differs in lines alone. Assumes nothing.
use Prim.Native.Nat.{ℕ, zero, suc}
use mathlib.Core.Path.{◌≡◌, refl, sym, ap, ◌∙◌}
use mathlib.Core.Bool.{Bool, true, false, cond}
use mathlib.Core.List.{List, [], ◌∷◌}
use lib.ListN.{length, get_or}
use Rattle.graph.specs.Hops.{number_place, Alike, flat}
use Rattle.graph.specs.Internal.Hops.{no_hop}
use Rattle.graph.specs.Order.{before}
use Rattle.graph.specs.declared.Hop.{Hop}
use Rattle.graph.proofs.Places.{length_flat, flat_at}
use Rattle.graph.proofs.Ordered.{alike_itself, before_alike}
use Rattle.reduce_smallest_line.specs.Lines.{merged_hop}
use Rattle.reduce_insertion.specs.Insertion.{insert, collected}
use Rattle.lines_ignored.specs.DifferInLines.{DifferInLines}

unfoldable pub Paired : List Hop → List Hop → Type 0
Paired [] [] = Unit {0}
Paired [] (y ∷ ys) = ⊥
Paired (x ∷ xs) [] = ⊥
Paired (x ∷ xs) (y ∷ ys) = Alike x y × Paired xs ys

pub paired_length : (xs ys : List Hop) → Paired xs ys → length xs ≡ length ys
unfolding Paired
paired_length [] [] p = refl
paired_length [] (y ∷ ys) p = absurd p
paired_length (x ∷ xs) [] p = absurd p
paired_length (x ∷ xs) (y ∷ ys) (a, p) = ap suc (paired_length xs ys p)

paired_at : (xs ys : List Hop) → Paired xs ys → (i : ℕ) → Alike (get_or xs i no_hop) (get_or ys i no_hop)
unfolding Paired
paired_at [] [] p i = alike_itself no_hop
paired_at [] (y ∷ ys) p i = absurd p
paired_at (x ∷ xs) [] p i = absurd p
paired_at (x ∷ xs) (y ∷ ys) (a, p) zero = a
paired_at (x ∷ xs) (y ∷ ys) (a, p) (suc i) = paired_at xs ys p i

pub paired_flat : (xs ys : List Hop) → Paired xs ys → DifferInLines (flat xs) (flat ys)
paired_flat xs ys p = record {
  as_long = length_flat xs ∙ ap number_place (paired_length xs ys p) ∙ sym (length_flat ys);
  alike = λ i. rw (flat_at xs i, flat_at ys i) (paired_at xs ys p i);
}

paired_insert : {h h' : Hop} (xs ys : List Hop) → Alike h h' → Paired xs ys → Paired (insert h xs) (insert h' ys)
unfolding Paired insert
paired_insert [] [] e p = (e, tt)
paired_insert [] (y ∷ ys) e p = absurd p
paired_insert (x ∷ xs) [] e p = absurd p
paired_insert {h} {h'} (x ∷ xs) (y ∷ ys) e (a, p) =
    rw (before_alike e a, before_alike a e) (go (before h' y) (before y h') (paired_insert xs ys e p)) where
      go : (b c : Bool) → Paired (insert h xs) (insert h' ys) → Paired (cond b (h ∷ x ∷ xs) (cond c (x ∷ insert h xs) (merged_hop x h ∷ xs)))
          (cond b (h' ∷ y ∷ ys) (cond c (y ∷ insert h' ys) (merged_hop y h' ∷ ys)))
      go true c later = (e, (a, p))
      go false true later = (a, later)
      go false false later = (record { same_from = a.same_from; same_label = a.same_label; same_to = a.same_to }, p)

module _ {keep keep' : ℕ → Bool} {img img' : ℕ → Hop} (e : (i : ℕ) → keep i ≡ keep' i) (like : (i : ℕ) → Alike (img i) (img' i)) where
  pub paired_collected : (n : ℕ) → Paired (collected keep img n) (collected keep' img' n)
  unfolding Paired collected
  paired_collected zero = tt
  paired_collected (suc n) = rw (e n) (go (keep' n) (paired_collected n)) where
    go : (b : Bool) → Paired (collected keep img n) (collected keep' img' n) →
        Paired (cond b (insert (img n) (collected keep img n)) (collected keep img n))
        (cond b (insert (img' n) (collected keep' img' n)) (collected keep' img' n))
    go true so_far = paired_insert (collected keep img n) (collected keep' img' n) (like n) so_far
    go false so_far = so_far
