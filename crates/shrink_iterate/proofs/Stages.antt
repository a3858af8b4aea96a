-- What every stage of a repetition keeps: rows 1 to 5 let its graph pass, the audit of the first
-- graph against it finds no fault, its reductions and states together are no more than the first
-- states, and its hops no more than the first hops. Assumes nothing.
use Prim.Native.Nat.{ℕ, ◌+◌, ◌<◌, ◌≤◌}
use mathlib.Core.Path.{◌≡◌}
use mathlib.Core.Bool.{true, false}
use mathlib.Core.List.{List}
use native.Mathlib.Omega.{arith}
use borrow.Author.Tests.{eq-eqb}
use lib.ListN.{length}
use lib.Dec.{eqb}
use Rattle.std.proofs.lemmas.Bool.{and_from, and_parts}
use Rattle.base_bounded.proofs.Bools.{clash}
use Rattle.base_bounded.proofs.Quantifiers.{any_at, any_found}
use Rattle.graph.specs.Hops.{count, from, label, to}
use Rattle.graph.specs.declared.Shape.{Shape}
use Rattle.graph.proofs.Places.{has_place, length_flat}
use Rattle.base_fixpoint.specs.Pairs.{In}
use Rattle.mark_senses.specs.Senses.{sense_of, in_set_at}
use Rattle.mark_senses.proofs.Marked.{marked_confluent_in}
use Rattle.reduce_representatives.specs.Reducible.{Reducible}
use Rattle.reduce_entry.specs.Reduce.{reduced_hops}
use Rattle.reduce_entry.proofs.Marked.{marked_within}
use Rattle.reduce_entry.proofs.Reduced.{short_again, short_fewer}
use Rattle.audit_entry.specs.Audit.{audit_of, faultless}
use Rattle.shrink_compose.proofs.Composed.{audit_zero_compose, identity_audit_zero}
use Rattle.audit_of_reduce.proofs.Correct.{short_audit_zero}
use Rattle.shrink_iterate.specs.Iterate.{Stage, first_stage, next_stage, stage_marked, some_marked, marks_some}

-- the test that some hop is marked, and what it says
module _ (k : ℕ) (g : Stage) where
  pub some_marked_lem : marks_some k g ≡ true → (s : ℕ) × (t : ℕ) × In (stage_marked k g) s t
  unfolding some_marked in_set_at
  some_marked_lem e =
      let (i, l, p) = any_at (in_set_at g.hops (stage_marked k g)) (count g.hops) e in
      (from g.hops i, to g.hops i, (and_parts (eqb (label g.hops i) 0) _ p).1)

  pub marked_some : (s t : ℕ) → In (stage_marked k g) s t → marks_some k g ≡ true
  unfolding some_marked in_set_at
  marked_some s t m =
      let p = has_place g.hops s 0 t ((marked_confluent_in (sense_of k) g.shape g.hops).silent s t m) in
      any_found (in_set_at g.hops (stage_marked k g)) (count g.hops) p.within (and_from _ _ (eq-eqb _ _ p.label_is) (rw (p.from_is, p.to_is) m))

  pub none_marked : marks_some k g ≡ false → (s t : ℕ) → In (stage_marked k g) s t → ⊥
  none_marked e s t m = clash (marked_some s t m) e

  -- where some is marked a reduction leaves fewer states
  pub fewer_states : Reducible g.shape g.hops → marks_some k g ≡ true → (next_stage k g).shape.states < g.shape.states
  fewer_states red e = let (s, t, m) = some_marked_lem e in short_fewer red (sense_of k) s t m

-- what a stage of the repetition that began with a graph keeps
pub record Staged (sh : Shape) (hs : List ℕ) (g : Stage) : Type 0 where
  pub reducible : Reducible g.shape g.hops
  pub right : audit_of sh g.shape hs g.hops g.map ≡ faultless
  pub few : g.reductions + g.shape.states ≤ sh.states
  pub fits : length g.hops ≤ length hs

pub first_staged : {sh : Shape} {hs : List ℕ} → Reducible sh hs → Staged sh hs (first_stage sh hs)
first_staged {sh} {hs} red = record { reducible = red; right = identity_audit_zero sh hs red.admitted; few = omega arith; fits = omega arith }

pub next_staged : (k : ℕ) {sh : Shape} {hs : List ℕ} {g : Stage} → Staged sh hs g → marks_some k g ≡ true → Staged sh hs (next_stage k g)
next_staged k {sh} {hs} {g} st e = record {
  reducible = short_again st.reducible (sense_of k);
  right = audit_zero_compose sh g.shape _ hs g.hops _ g.map _ st.right (short_audit_zero st.reducible (sense_of k));
  few = let l = fewer_states k g st.reducible e in omega (arith, st.few);
  fits = omega (arith, length_flat (reduced_hops g.shape g.hops k), marked_within g.shape g.hops k, st.fits);
}
