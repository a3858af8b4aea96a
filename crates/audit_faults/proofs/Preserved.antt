-- The ways out of the test of the second sum, in the words of its definition. Assumes nothing.
use Rattle.std.proofs.lemmas.Bool.{or_right}
use Rattle.std.proofs.Common.{Result, Ok, Err}
use Prim.Native.Nat.{ℕ}
use mathlib.Core.Path.{◌≡◌, refl, sym, ap, ◌∙◌}
use mathlib.Core.Bool.{Bool, true, false, not, ◌&&◌, ◌||◌}
use mathlib.Core.List.{List}
use native.Mathlib.Omega.{arith}
use lib.Dec.{eqb}
use Rattle.graph.specs.Hops.{from, label, to, has}
use Rattle.graph.specs.Map.{mapped}
use Rattle.graph.specs.Internal.Search.{placed}
use Rattle.graph.proofs.Lookup.{at_place, at_has, gap_has}
use Rattle.graph_successors.specs.Internal.SuccessorIndex.{Indexable}
use Rattle.audit_faults.specs.Faults.{preserved}
use Rattle.audit_faults.specs.Internal.Images.{mapped_hop, no_place, place_of, image_of}

-- the place of the mapped hop says whether graph 2 has it
module _ (h1 h2 m : List ℕ) (ready : Indexable h2) (i : ℕ) {p : ℕ} (e : p ≡ image_of h1 h2 m i) where
  abbrev has_it : Bool
  has_it = has h2 (mapped m (from h1 i)) (label h1 i) (mapped m (to h1 i))

  image_has : (p ≡ no_place → ⊥) → has_it ≡ true
  unfolding image_of
  image_has f = go (placed h2 (mapped_hop h1 m i)) refl where
    go : (x : Result ℕ ℕ) → placed h2 (mapped_hop h1 m i) ≡ x → has_it ≡ true
    go (Ok q) d = at_has h2 (mapped_hop h1 m i) d
    go (Err q) d = absurd (f (e ∙ ap place_of d))

  image_none : p ≡ no_place → has_it ≡ false
  unfolding image_of
  image_none f = go (placed h2 (mapped_hop h1 m i)) refl where
    go : (x : Result ℕ ℕ) → placed h2 (mapped_hop h1 m i) ≡ x → has_it ≡ false
    go (Ok q) d =
        let z : q ≡ no_place = sym (ap place_of d) ∙ sym e ∙ f in absurd (omega (arith, (at_place h2 (mapped_hop h1 m i) d).0, ready.hops_most))
    go (Err q) d = gap_has h2 (mapped_hop h1 m i) ready.ascending d

  pub preserved_image : (p ≡ no_place → ⊥) → true ≡ preserved h1 h2 m i
  unfolding preserved
  preserved_image f = sym (or_right (eqb (label h1 i) 0 && eqb (mapped m (from h1 i)) (mapped m (to h1 i))) _ (image_has f))

  pub preserved_no_place : p ≡ no_place → {a r q : ℕ} → a ≡ label h1 i → r ≡ mapped m (from h1 i) → q ≡ mapped m (to h1 i) →
      (eqb a 0 && eqb r q) ≡ preserved h1 h2 m i
  unfolding preserved
  preserved_no_place f x y z = rw (image_none f, x, y, z) (or_false (eqb (label h1 i) 0 && eqb (mapped m (from h1 i)) (mapped m (to h1 i)))) where
    or_false : (b : Bool) → b ≡ (b || false)
    or_false true = refl
    or_false false = refl

-- what the second sum counts
abbrev pub lost : List ℕ → List ℕ → List ℕ → ℕ → Bool
lost h1 h2 m i = not (preserved h1 h2 m i)
