-- The topological order that a struct holds: from the mere fact its parts, since each is a fact of
-- its own or found by trying the places. And the order in the slice that the struct lends. Assumes
-- nothing.
use Rattle.std.proofs.Common.{ℕ, List, ◌≡◌, ◌<◌, Bool, true, eqb, eqb-true, eq-eqb, get_or, length, take, ◌∙◌, arith, length-take-le}
use Rattle.std.proofs.lemmas.List.{get_or-take}
use Rattle.std.proofs.Props.{props}
use Rattle.std.proofs.Math.Logic.{∥∥₁_elim}
use Rattle.base_bounded.specs.Quantifiers.{any}
use Rattle.base_bounded.proofs.Quantifiers.{any_found, any_at}
use Rattle.graph.specs.Hops.{count, label}
use Rattle.walk_topological_order.specs.Internal.TopologicalOrder.{TopologicalOrder}

module _ {hs sorted : List ℕ} {n : ℕ} (t : ∥ TopologicalOrder hs sorted n ∥₁) where
  every_place : (i : ℕ) → i < count hs → label hs i ≡ 0 → (k : ℕ) × (k < n) × (get_or sorted k 0 ≡ i)
  every_place i l z =
      let at_k : ℕ → Bool = λ (k : ℕ). eqb (get_or sorted k 0) i in
      let there : any n at_k ≡ true = ∥∥₁_elim t (hlevel props) (λ o. let (k, h, q) = o.every i l z in any_found at_k n h (eq-eqb _ _ q)) in
      let (k, h, e) = any_at at_k n there in
      (k, h, eqb-true _ _ e)

  pub in_order : TopologicalOrder hs sorted n
  in_order = record {
    capacity = ∥∥₁_elim t (hlevel props) (λ o. o.capacity);
    within = ∥∥₁_elim t (hlevel props) (λ o. o.within);
    silent = ∥∥₁_elim t (hlevel props) (λ o. o.silent);
    every = every_place;
    order = ∥∥₁_elim t (hlevel props) (λ o. o.order);
  }

-- the order stands in the slice of its places alone
module _ {hs sorted : List ℕ} {n : ℕ} (o : TopologicalOrder hs sorted n) where
  many : length (take n sorted) ≡ n
  many = length-take-le n sorted o.capacity

  same : (k : ℕ) → k < n → get_or (take n sorted) k 0 ≡ get_or sorted k 0
  same k l = get_or-take n sorted k 0 l

  pub alone : TopologicalOrder hs (take n sorted) (length (take n sorted))
  alone = rw many (record {
    capacity = omega (arith, many);
    within = λ k l. rw (same k l) (o.within k l);
    silent = λ k l. rw (same k l) (o.silent k l);
    every = λ i l z. let (k, h, q) = o.every i l z in (k, h, same k h ∙ q);
    order = λ j k l m. rw (same j l, same k m) (o.order j k l m);
  })
