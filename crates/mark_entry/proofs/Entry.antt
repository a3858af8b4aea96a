-- The answer of `mark` row by row, and what its acceptance implies: an admitted graph without
-- rings, and an output with capacity for one mark a hop. Assumes nothing.
use Prim.Native.Nat.{ℕ, ◌≤◌}
use mathlib.Core.Path.{◌≡◌, sym, ◌∙◌}
use mathlib.Core.List.{List}
use lib.ListN.{length}
use borrow.Author.Tests.{eq-eqb, ne_eqb}
use Rattle.base_outputs.specs.Output.{on_front}
use Rattle.graph.specs.Hops.{count}
use Rattle.graph.specs.Answers.{and_then, capacity_answer}
use Rattle.graph_check.specs.Check.{check_of, Admitted}
use Rattle.graph.specs.declared.Shape.{Shape}
use Rattle.graph.specs.declared.Answer.{Answer}
use Rattle.graph_check.proofs.Checked.{check_admitted}
use Rattle.graph.proofs.Accepts.{then_first, then_next, both_accept, capacity_accepts}
use Rattle.walk_silent.specs.Silent.{ring_answer}
use Rattle.mark_senses.specs.Senses.{sense_answer}
use Rattle.mark_entry.specs.Mark.{marks_made, mark_answer, mark_output}

-- row 5 of an admitted graph is the answer where it refuses
module _ (sh : Shape) (hs : List ℕ) (capacity : ℕ) {d : Answer} (f : d ≡ ring_answer sh hs) where
  pub later_ringed : (d.number ≡ 0 → ⊥) → d ≡ and_then (ring_answer sh hs) (capacity_answer (count hs) capacity)
  later_ringed n = f ∙ sym (then_first (ring_answer sh hs) _ (rw f at n))

module _ (sh : Shape) (hs : List ℕ) (k : ℕ) (out : List ℕ) where
  abbrev behind_sense : Answer
  behind_sense = and_then (ring_answer sh hs) (capacity_answer (count hs) (length out))

  -- the ways out of the entry: rows 1 to 4, row 19, and the later ones
  module _ {c : Answer} (e : c ≡ check_of sh hs) where
    pub mark_refused : (c.number ≡ 0 → ⊥) → c ≡ mark_answer sh hs k out
    unfolding mark_answer
    mark_refused n = e ∙ sym (then_first (check_of sh hs) _ (rw e at n))

    module _ (z : c.number ≡ 0) {b : Answer} (g : b ≡ sense_answer k) where
      passed : and_then (sense_answer k) behind_sense ≡ mark_answer sh hs k out
      unfolding mark_answer
      passed = sym (then_next (check_of sh hs) _ (rw e at z))

      pub mark_sensed : (b.number ≡ 0 → ⊥) → b ≡ mark_answer sh hs k out
      mark_sensed n = g ∙ sym (then_first (sense_answer k) _ (rw g at n)) ∙ passed

      pub mark_later : b.number ≡ 0 → {d : Answer} → d ≡ behind_sense → d ≡ mark_answer sh hs k out
      mark_later y f = f ∙ sym (then_next (sense_answer k) _ (rw g at y)) ∙ passed

  -- what acceptance implies
  module _ (e : (mark_answer sh hs k out).number ≡ 0) where
    pub mark_admitted : Admitted sh hs
    unfolding mark_answer
    mark_admitted = check_admitted sh hs (both_accept (check_of sh hs) _ e).0

    later_accepted : behind_sense.number ≡ 0
    unfolding mark_answer
    later_accepted = (both_accept (sense_answer k) _ (both_accept (check_of sh hs) _ e).1).1

    pub mark_ringless : (ring_answer sh hs).number ≡ 0
    mark_ringless = (both_accept (ring_answer sh hs) _ later_accepted).0

    pub mark_capacity : count hs ≤ length out
    mark_capacity = (capacity_accepts (count hs) (length out) (both_accept (ring_answer sh hs) _ later_accepted).1).1

    -- what stands in the output afterwards
    pub output_marked : {ms : List ℕ} → ms ≡ on_front (marks_made sh hs k) out → ms ≡ mark_output sh hs k out
    unfolding mark_output
    output_marked m = rw (eq-eqb (mark_answer sh hs k out).number 0 e) m

  pub output_same : ((mark_answer sh hs k out).number ≡ 0 → ⊥) → out ≡ mark_output sh hs k out
  unfolding mark_output
  output_same n = rw (ne_eqb (mark_answer sh hs k out).number 0 n)
