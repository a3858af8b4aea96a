-- What the audit's answer means: 0 exactly where both graphs and the map are admitted and the label
-- counts agree. Assumes nothing.
use Prim.Native.Nat.{ℕ, ◌≤◌}
use mathlib.Core.Path.{◌≡◌, refl, sym, ap}
use mathlib.Core.Bool.{Bool, true, false, cond, not}
use mathlib.Core.List.{List}
use mathlib.Core.Logic.{◌↔◌}
use native.Mathlib.Nat.{le_refl}
use native.Mathlib.Omega.{arith}
use borrow.Author.Tests.{eq-eqb, eqb-true, eqb-false, lt-ltb, le-ltb, ltb-true, ltb-false, not-false}
use lib.ListN.{length}
use lib.Dec.{eqb, ltb}
use Rattle.std.proofs.lemmas.Bool.{not_from_true}
use Rattle.base_bounded.specs.Quantifiers.{least}
use Rattle.graph.specs.Answers.{accepted, refused, in_table, and_then}
use Rattle.graph.specs.Map.{mapped}
use Rattle.graph.specs.declared.Shape.{Shape}
use Rattle.graph.specs.declared.Answer.{Answer}
use Rattle.graph_check.specs.Check.{check_of}
use Rattle.base_bounded.proofs.Quantifiers.{least_no, least_before}
use Rattle.graph_check.proofs.Checked.{check_admitted, admitted_check}
use Rattle.graph.proofs.Accepts.{refusal_ne0}
use Rattle.audit_admitted.specs.Admitted.{AdmittedMap, first_high, map_fits, audit_answer, audit_refusal_answer}
use Rattle.audit_admitted.specs.Admitted.{Audited}
use Rattle.audit_admitted.specs.declared.AuditRefusal.{AuditRefusal}
use Rattle.audit_admitted.specs.declared.AuditRefusal.TheVariants.{Graph2, Other}

-- no refusal of an audit has number 0
pub audit_refusal_ne0 : (r : AuditRefusal) → (audit_refusal_answer r).number ≡ 0 → ⊥
audit_refusal_ne0 (Graph2 r) = refusal_ne0 r
audit_refusal_ne0 (Other r) = refusal_ne0 r

-- row 8
module _ (sh1 sh2 : Shape) (m : List ℕ) where
  pub fits_accepts : length m ≡ sh1.states → {o : ℕ} → o ≡ first_high sh2 m → length m ≤ o → accepted ≡ map_fits sh1 sh2 m
  unfolding map_fits
  fits_accepts e p l = rw (eq-eqb _ _ e, ← p, le-ltb _ _ l)

  abbrev high : ℕ → Bool
  high s = not (ltb (mapped m s) sh2.states)

  -- accepted is the admitted map and no other
  pub fits_admits : (map_fits sh1 sh2 m).number ≡ 0 → AdmittedMap sh1 sh2 m
  unfolding map_fits first_high
  fits_admits z = go (eqb (length m) sh1.states) refl (ltb (least (length m) high) (length m)) refl z where
    go : (x : Bool) → eqb (length m) sh1.states ≡ x → (y : Bool) → ltb (least (length m) high) (length m) ≡ y →
        (cond x (cond y (refused 8 (least (length m) high)) accepted) (refused 8 (length m))).number ≡ 0 → AdmittedMap sh1 sh2 m
    go true d true e z = absurd (omega arith)
    go true d false e z =
        let long : length m ≡ sh1.states = eqb-true _ _ d in
        let none : length m ≤ least (length m) high = ltb-false _ _ e in
        record { one_a_state = long; entries_in = λ s l. ltb-true _ _ (not-false _ (least_before high (length m) (omega arith))) }
    go false d y e z = absurd (omega arith)

  pub admits_fits : AdmittedMap sh1 sh2 m → accepted ≡ map_fits sh1 sh2 m
  unfolding first_high
  admits_fits a =
      fits_accepts a.one_a_state refl (rw (least_no high (length m) (λ s l. not_from_true _ (lt-ltb _ _ (a.entries_in s (omega arith))))) (le_refl (length m)))

module _ (sh1 sh2 : Shape) (h1 h2 m : List ℕ) where
  -- where nothing speaks before it, row 8 is the answer
  pub answer_map : {a : Answer} → a ≡ check_of sh1 h1 → a.number ≡ 0 → {b : Answer} → b ≡ check_of sh2 h2 → b.number ≡ 0 → sh1.labels ≡ sh2.labels →
      {x : Answer} → x ≡ map_fits sh1 sh2 m → x ≡ audit_answer sh1 sh2 h1 h2 m
  unfolding audit_answer
  answer_map ea za eb zb d e = rw (← ea, eq-eqb _ _ za, ← eb, eq-eqb _ _ zb, eq-eqb _ _ d) e

  pub answer_audited : (audit_answer sh1 sh2 h1 h2 m).number ≡ 0 → Audited sh1 sh2 h1 h2 m
  unfolding audit_answer
  answer_audited z =
      go (eqb (check_of sh1 h1).number 0) refl (eqb (check_of sh2 h2).number 0) refl (eqb sh1.labels sh2.labels) refl z where
        go : (x : Bool) → eqb (check_of sh1 h1).number 0 ≡ x → (y : Bool) → eqb (check_of sh2 h2).number 0 ≡ y →
            (w : Bool) → eqb sh1.labels sh2.labels ≡ w →
            (cond x (cond y (and_then (cond w accepted (refused 7 0)) (map_fits sh1 sh2 m)) (in_table 2 (check_of sh2 h2))) (check_of sh1 h1)).number ≡ 0 →
            Audited sh1 sh2 h1 h2 m
        go true d true e true f z = record {
          first = check_admitted sh1 h1 (eqb-true _ _ d);
          second = check_admitted sh2 h2 (eqb-true _ _ e);
          labels = eqb-true _ _ f;
          map = fits_admits sh1 sh2 m z;
        }
        go true d true e false f z = absurd (omega arith)
        go true d false e w f z = absurd (eqb-false _ _ e z)
        go false d y e w f z = absurd (eqb-false _ _ d z)

  pub audited_answer : Audited sh1 sh2 h1 h2 m → audit_answer sh1 sh2 h1 h2 m ≡ accepted
  audited_answer a =
      sym (answer_map (sym (admitted_check sh1 h1 a.first)) refl (sym (admitted_check sh2 h2 a.second)) refl a.labels (admits_fits sh1 sh2 m a.map))

  -- the answer is 0 exactly for what document 01 admits
  pub answer_zero : ((audit_answer sh1 sh2 h1 h2 m).number ≡ 0) ↔ Audited sh1 sh2 h1 h2 m
  answer_zero = (answer_audited, λ a. ap (λ (x : Answer). x.number) (audited_answer a))
