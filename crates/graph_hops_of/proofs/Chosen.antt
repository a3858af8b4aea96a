-- What the choice of a side says of the chosen table. Assumes nothing.
use Prim.Native.Nat.{ℕ, ◌<◌}
use mathlib.Core.Path.{◌≡◌, refl, sym}
use Rattle.std.proofs.Common.{Some}
use mathlib.Core.Bool.{Bool, true, false, cond, ◌&&◌}
use mathlib.Core.List.{List}
use native.Mathlib.Omega.{arith}
use borrow.Author.Tests.{eqb-true, ltb-true}
use lib.Dec.{eqb, ltb}
use Rattle.std.proofs.lemmas.Bool.{and_parts}
use Rattle.graph_check.specs.Check.{check_of, Admitted}
use Rattle.graph.specs.declared.Shape.{Shape}
use Rattle.graph_check.proofs.Checked.{check_admitted}
use Rattle.graph_hops_of.specs.HopsOf.{both_pass, chosen}
use Rattle.graph_hops_of.specs.Internal.Side.{side_number}
use Rattle.graph_hops_of.specs.declared.Side.{Side}
use Rattle.graph_hops_of.specs.declared.Side.TheVariants.{First, Second}

abbrev picked : Bool → Bool → Bool → ℕ
picked x y z = cond x (cond y 1 (cond z 2 0)) 0

module _ (side s : ℕ) (sh1 : Shape) (h1 : List ℕ) (sh2 : Shape) (h2 : List ℕ) where
  -- the table whose hops are returned is admitted, and has the state
  pub record Shows (sh : Shape) (hs : List ℕ) : Type 0 where
    pub admitted : Admitted sh hs
    pub present : s < sh.states

  -- .. so the state and the next number are of 16 bits
  pub shows_narrow : {sh : Shape} {hs : List ℕ} → Shows sh hs → s < 65535
  shows_narrow x = omega (arith, x.present, x.admitted.states_most)

  told : (x y z : Bool) → both_pass sh1 h1 sh2 h2 ≡ x → (eqb side 1 && ltb s sh1.states) ≡ y → (eqb side 2 && ltb s sh2.states) ≡ z →
      (picked x y z ≡ 1 → Shows sh1 h1) × (picked x y z ≡ 2 → Shows sh2 h2)
  unfolding both_pass
  told true true z p q r = (
    λ _. record {
      admitted = check_admitted sh1 h1 (eqb-true _ _ (and_parts (eqb (check_of sh1 h1).number 0) _ p).0);
      present = ltb-true _ _ (and_parts (eqb side 1) _ q).1;
    },
    λ e. absurd (omega arith),
  )
  told true false true p q r = (
    λ e. absurd (omega arith),
    λ _. record {
      admitted = check_admitted sh2 h2 (eqb-true _ _ (and_parts (eqb (check_of sh1 h1).number 0) _ p).1);
      present = ltb-true _ _ (and_parts (eqb side 2) _ r).1;
    },
  )
  told true false false p q r = (λ e. absurd (omega arith), λ e. absurd (omega arith))
  told false y z p q r = (λ e. absurd (omega arith), λ e. absurd (omega arith))

  -- .. so much is known where a side was chosen
  pub first_shows : {x : Side} → side_number (Some x) ≡ chosen side s sh1 h1 sh2 h2 → x ≡ First → Shows sh1 h1
  unfolding chosen
  first_shows e d = (told _ _ _ refl refl refl).0 (sym (rw d at e))

  pub second_shows : {x : Side} → side_number (Some x) ≡ chosen side s sh1 h1 sh2 h2 → x ≡ Second → Shows sh2 h2
  unfolding chosen
  second_shows e d = (told _ _ _ refl refl refl).1 (sym (rw d at e))
