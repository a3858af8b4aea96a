-- The invariant of the loop: the stage that the code holds is one of the repetition, and leads to
-- its last stage. Assumes nothing.
use Prim.Native.Nat.{ℕ, ◌+◌, ◌<◌, ◌≤◌}
use mathlib.Core.Path.{◌≡◌, refl, sym, ap, ◌∙◌}
use mathlib.Core.Bool.{Bool, true, false, cond, not, ◌&&◌}
use mathlib.Core.List.{List}
use mathlib.Core.Logic.{◌⊎◌, inl, inr}
use native.Mathlib.Omega.{arith}
use borrow.Author.Tests.{eqb-true, not-false}
use lib.ListN.{length}
use lib.Dec.{eqb}
use Rattle.base_bounded.proofs.Bools.{clash, decided}
use Rattle.graph.specs.Hops.{count, between}
use Rattle.graph.specs.Answers.{most_states}
use Rattle.graph.specs.declared.Shape.{Shape}
use Rattle.reduce_representatives.specs.Reducible.{Reducible}
use Rattle.audit_admitted.specs.Admitted.{Audited}
use Rattle.audit_entry.proofs.Answering.{faultless_iff}
use Rattle.shrink_compose.specs.Composed.{identity_map}
use Rattle.shrink_compose.specs.Internal.Composed.{Into}
use Rattle.shrink_iterate.specs.Iterate.{Stage, next_stage, marks_some, last_of, last_stage}
use Rattle.shrink_iterate.proofs.Stages.{fewer_states, Staged, first_staged, next_staged}
use Rattle.shrink_iterate.proofs.Last.{last_again, last_still}
use Rattle.shrink_iterate.proofs.Once.{next_still}
use Rattle.shrink_step.specs.Internal.Progress.{stage_of}
use Rattle.shrink_step.specs.declared.Progress.{Progress}

-- the code holds a stage of the repetition from the graph sh, hs under the sense k
pub record Standing (k : ℕ) (sh : Shape) (hs : List ℕ) (at : Progress) (hops map : List ℕ) : Type 0 where
  pub staged : Staged sh hs (stage_of at hops map)
  pub there : at.hops ≤ count hops
  pub leads : last_of k (stage_of at hops map) ≡ last_stage k sh hs
  pub done : at.more ≡ false → marks_some k (stage_of at hops map) ≡ false

-- the measure of the loop, which falls with each iteration
abbrev pub left : Progress → ℕ
left at = at.shape.states + cond at.more 1 0

-- before the first iteration
pub first_stands : (k : ℕ) (sh : Shape) (hops map : List ℕ) (n : ℕ) → Reducible sh (between hops 0 n) → n ≤ count hops → map ≡ identity_map sh.states →
    Standing k sh (between hops 0 n) (record { shape = sh; hops = n; reductions = 0; more = true }) hops map
first_stands k sh hops map n red l e = rw e (record { staged = first_staged red; there = l; leads = refl; done = λ d. clash refl d })

module _ (k : ℕ) {sh : Shape} {hs : List ℕ} {at : Progress} {hops map : List ℕ} (stands : Standing k sh hs at hops map) where
  abbrev g : Stage
  g = stage_of at hops map

  -- what an iteration requires
  audited : Audited sh at.shape hs g.hops map
  audited = ((faultless_iff sh at.shape hs g.hops map).0 stands.staged.right).0

  pub map_length : length map ≡ sh.states
  map_length = audited.map.one_a_state

  pub map_few : length map ≤ most_states
  map_few = omega (arith, map_length, audited.first.states_most)

  pub map_into : Into map at.shape.states
  map_into s l = audited.map.entries_in s (rw map_length at l)

  pub counted : at.reductions < most_states
  counted = omega (arith, stands.staged.few, stands.staged.reducible.admitted.states_some, audited.first.states_most)

  -- a stage in which nothing is marked is the last
  pub stands_last : at.more ≡ false → g ≡ last_stage k sh hs
  stands_last e = sym (last_still k g (stands.done e)) ∙ stands.leads

  -- one iteration
  module _
      {r : Progress} (after then : List ℕ) (m : r.more ≡ (marks_some k g && not (eqb k 8))) (t : stage_of r after then ≡ cond (marks_some k g) (next_stage k g) g) (l : r.hops ≤ count after)
    where
      moves : marks_some k g ≡ true → stage_of r after then ≡ next_stage k g
      moves e = t ∙ ap (λ (b : Bool). cond b (next_stage k g) g) e

      stays : marks_some k g ≡ false → stage_of r after then ≡ g
      stays e = t ∙ ap (λ (b : Bool). cond b (next_stage k g) g) e

      -- a reduction under R8 leaves nothing marked
      behind : marks_some k g ≡ true → k ≡ 8 → marks_some k (next_stage k g) ≡ false
      behind e q = rw q (next_still g stands.staged.reducible)

      pub next_stands : Standing k sh hs r after then
      next_stands = on (decided (marks_some k g)) where
        on : (marks_some k g ≡ true) ⊎ (marks_some k g ≡ false) → Standing k sh hs r after then
        on (inl e) = record {
          staged = rw (moves e) (next_staged k stands.staged e);
          there = l;
          leads = ap (last_of k) (moves e) ∙ last_again k stands.staged e ∙ stands.leads;
          done = λ d. ap (marks_some k) (moves e) ∙ behind e (eqb-true k 8 (not-false _ (rw e at (sym m ∙ d))));
        }
        on (inr e) = record {
          staged = rw (stays e) stands.staged;
          there = l;
          leads = ap (last_of k) (stays e) ∙ stands.leads;
          done = λ d. ap (marks_some k) (stays e) ∙ e;
        }

      pub left_falls : at.more ≡ true → left r < left at
      left_falls a = on (decided (marks_some k g)) where
        states : {h : Stage} → stage_of r after then ≡ h → r.shape.states ≡ h.shape.states
        states q = ap (λ (x : Stage). x.shape.states) q

        bit : (b : Bool) → cond b 1 0 ≤ 1
        bit true = omega arith
        bit false = omega arith

        on : (marks_some k g ≡ true) ⊎ (marks_some k g ≡ false) → left r < left at
        on (inl e) = let f = fewer_states k g stands.staged.reducible e in rw a (omega (arith, states (moves e), bit r.more))
        on (inr e) = rw (m ∙ ap (λ (b : Bool). b && not (eqb k 8)) e, a) (omega (arith, states (stays e)))
