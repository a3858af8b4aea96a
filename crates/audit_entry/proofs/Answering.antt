-- The ways out of the entry, in the words of what it returns; and what was admitted can be audited.
-- Assumes nothing.
use Prim.Native.Nat.{ℕ}
use mathlib.Core.Path.{◌≡◌, refl, sym, ap, ◌∙◌}
use mathlib.Core.List.{List}
use mathlib.Core.Logic.{◌↔◌}
use native.Mathlib.Omega.{arith}
use borrow.Author.Tests.{eq-eqb, ne_eqb}
use Rattle.graph.specs.declared.Shape.{Shape}
use Rattle.graph.specs.declared.Answer.{Answer}
use Rattle.graph_successors.proofs.Firsts.{admitted_indexable}
use Rattle.audit_faults.specs.Faults.{faults_of}
use Rattle.audit_faults.specs.First.{no_fault, first_fault}
use Rattle.audit_faults.specs.Internal.Images.{Auditable}
use Rattle.audit_faults.specs.declared.Fault.{Fault}
use Rattle.audit_admitted.specs.Admitted.{audit_answer, Audited}
use Rattle.audit_faults.proofs.Naming.{no_fault_named}
use Rattle.audit_admitted.proofs.Admitted.{answer_audited, audited_answer}
use Rattle.audit_entry.specs.Audit.{audit_of, faultless}
use Rattle.audit_entry.specs.declared.Audit.{Audit}

pub auditable : {sh1 sh2 : Shape} {h1 h2 m : List ℕ} → Audited sh1 sh2 h1 h2 m → Auditable sh1 h1 h2 m
auditable a =
    record {
      admitted = a.first;
      ready = admitted_indexable a.second;
      one_a_state = a.map.one_a_state;
      entries_in = λ s l. omega (arith, a.map.entries_in s l, a.second.states_most);
    }

-- the ways out of the entry
module _ (sh1 sh2 : Shape) (h1 h2 m : List ℕ) {a : Answer} (ea : a ≡ audit_answer sh1 sh2 h1 h2 m) where
  pub audit_refuses : (a.number ≡ 0 → ⊥) → ◌≡◌ {A = Audit} (record { answer = a; faults = 0; first = no_fault }) (audit_of sh1 sh2 h1 h2 m)
  unfolding audit_of
  audit_refuses d = rw (← ea, ne_eqb _ _ d)

  pub audit_counts : a.number ≡ 0 → {x : ℕ} {f : Fault} → x ≡ faults_of sh1 sh2 h1 h2 m → f ≡ first_fault sh1 sh2 h1 h2 m →
      ◌≡◌ {A = Audit} (record { answer = a; faults = x; first = f }) (audit_of sh1 sh2 h1 h2 m)
  unfolding audit_of
  audit_counts z e n = rw (← ea, eq-eqb _ _ z, e, n)

-- the audit accepts and finds no fault exactly where all that was lent is admitted and the count is
-- 0
pub faultless_iff : (sh1 sh2 : Shape) (h1 h2 m : List ℕ) → (audit_of sh1 sh2 h1 h2 m ≡ faultless) ↔ (Audited sh1 sh2 h1 h2 m × (faults_of sh1 sh2 h1 h2 m ≡ 0))
unfolding audit_of
faultless_iff sh1 sh2 h1 h2 m = (
  λ e. (audited e, none e),
  λ (a, z). sym (audit_counts sh1 sh2 h1 h2 m (sym (audited_answer sh1 sh2 h1 h2 m a)) refl (sym z) (no_fault_named sh1 sh2 h1 h2 m z)),
) where
  zero : audit_of sh1 sh2 h1 h2 m ≡ faultless → (audit_answer sh1 sh2 h1 h2 m).number ≡ 0
  zero e = ap (λ (x : Audit). x.answer.number) e

  audited : audit_of sh1 sh2 h1 h2 m ≡ faultless → Audited sh1 sh2 h1 h2 m
  audited e = answer_audited sh1 sh2 h1 h2 m (zero e)

  none : audit_of sh1 sh2 h1 h2 m ≡ faultless → faults_of sh1 sh2 h1 h2 m ≡ 0
  none e = ap (λ (x : Audit). x.faults) (audit_counts sh1 sh2 h1 h2 m refl (zero e) refl refl ∙ e)
