-- Under R8 what a reduction leaves has no marked hop: so at most one reduction of a repetition
-- marks something. It fails for the other senses, as the worked table shows. Assumes nothing.
use Prim.Native.Nat.{ℕ, ◌≤◌}
use mathlib.Core.Path.{◌≡◌, ap, ◌∙◌}
use mathlib.Core.Bool.{true, false}
use mathlib.Core.List.{List}
use mathlib.Core.Logic.{⊎_elim}
use native.Mathlib.Omega.{arith}
use Rattle.std.proofs.lemmas.Bool.{cases_Bool, false_from_ne_true}
use Rattle.graph.specs.Hops.{flat}
use Rattle.graph.specs.declared.Shape.{Shape}
use Rattle.lts.specs.Closes.{r8}
use Rattle.lts.proofs.Once.{once}
use Rattle.base_fixpoint.specs.Pairs.{Pairs, In}
use Rattle.mark_senses.specs.Senses.{marked_in, sense_of}
use Rattle.mark_senses.proofs.Marked.{marked_confluent_in, marked_greatest_in}
use Rattle.reduce_representatives.specs.Representative.{map_of}
use Rattle.reduce_representatives.specs.Reducible.{Reducible}
use Rattle.reduce_representatives.proofs.NormalForm.{rep_rests}
use Rattle.reduce_representatives.proofs.Mapped.{map_own}
use Rattle.reduce_short_graph.specs.Short.{short_hops, short_shape}
use Rattle.reduce_short_graph.proofs.Images.{short_only}
use Rattle.reduce_short_graph.proofs.Reduces.{short_renumbered}
use Rattle.reduce_entry.proofs.Marked.{marked_terminating}
use Rattle.shrink_iterate.specs.Iterate.{Stage, first_stage, next_stage, marks_some, last_stage}
use Rattle.shrink_iterate.proofs.Stages.{some_marked_lem, first_staged}
use Rattle.shrink_iterate.proofs.Last.{last_again, last_still}

module _ {sh : Shape} {hs : List ℕ} (red : Reducible sh hs) where
  -- the marked set of R8, and what is left along it
  abbrev u : Pairs
  u = marked_in r8 sh hs

  -- every hop of the short graph leaves an image, and none from an image is in a set of R8
  pub left_unmarked : (n m : ℕ) → In (marked_in r8 (short_shape sh hs u) (flat (short_hops sh hs u))) n m → ⊥
  left_unmarked n m w =
      let again = marked_confluent_in r8 (short_shape sh hs u) (flat (short_hops sh hs u)) in
      let (r, _, e, _, d, _) = short_only sh hs u n 0 m (again.silent n m w) in
      let at : map_of sh hs u r ≡ n = map_own sh hs u r e ∙ d in
      once (marked_confluent_in r8 sh hs) (rep_rests (marked_terminating red r8)) (short_renumbered (marked_terminating red r8)) again
      (marked_greatest_in r8 sh hs red.admitted.range) r m (rw at w)

-- so where a stage is reduced under R8 nothing is marked afterwards
pub next_still : (g : Stage) → Reducible g.shape g.hops → marks_some 8 (next_stage 8 g) ≡ false
unfolding sense_of
next_still g red = false_from_ne_true _ (λ e. let (n, m, w) = some_marked_lem 8 (next_stage 8 g) e in left_unmarked red n m w)

-- under R8 the number of reductions is 0 or 1
pub r8_reductions_le_one : {sh : Shape} {hs : List ℕ} → Reducible sh hs → (last_stage 8 sh hs).reductions ≤ 1
r8_reductions_le_one {sh} {hs} red = ⊎_elim moved (λ e. omega (arith, counted (last_still 8 first e))) (cases_Bool (marks_some 8 first)) where
  first : Stage
  first = first_stage sh hs

  counted : {g h : Stage} → g ≡ h → g.reductions ≡ h.reductions
  counted e = ap (λ (g : Stage). g.reductions) e

  moved : marks_some 8 first ≡ true → (last_stage 8 sh hs).reductions ≤ 1
  moved e = omega (arith, counted (last_again 8 (first_staged red) e), counted (last_still 8 (next_stage 8 first) (next_still first red)))
