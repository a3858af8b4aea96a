-- Demand 3 over the outputs themselves, in the sense asked. The fronts of the two outputs of an
-- accepted `reduce` are the map and the short hops, whatever the outputs held before, so the audit
-- of them is that of `short_audit_zero`. Assumes nothing.
use Prim.Native.Nat.{ℕ, ◌≤◌}
use mathlib.Core.Path.{◌≡◌, refl, ◌∙◌}
use mathlib.Core.Bool.{Bool, true, false, cond}
use mathlib.Core.List.{List}
use native.Mathlib.Omega.{arith}
use lib.ListN.{length, take}
use lib.Seq.{take_at}
use lib.Dec.{eqb}
use Rattle.graph.specs.Hops.{count, flat, between}
use Rattle.graph.specs.Answers.{accepted}
use Rattle.graph.specs.declared.Shape.{Shape}
use Rattle.graph.specs.declared.Answer.{Answer}
use Rattle.base_bounded.proofs.Quantifiers.{length_tabulate}
use Rattle.graph.proofs.Fronts.{flat_front}
use Rattle.reduce_short_graph.specs.Short.{map_list}
use Rattle.mark_senses.specs.Senses.{sense_of}
use Rattle.reduce_entry.proofs.Marked.{marked_within}
use Rattle.reduce_entry.specs.Reduce.{no_shape, reduced_map, reduced_hops, reduced_shape, reduce_answer, reduction, reduce_of, map_output, short_output}
use Rattle.reduce_entry.specs.Internal.Reduce.{reduced_state}
use Rattle.reduce_entry.specs.declared.Reduction.{Reduction}
use Rattle.reduce_entry.proofs.Answering.{reduce_reducible, reduce_map_capacity, reduce_short_capacity, accepted_returns, accepted_map, accepted_short}
use Rattle.audit_entry.specs.declared.Audit.{Audit}
use Rattle.audit_entry.specs.Audit.{faultless}
use Rattle.audit_of_reduce.specs.AuditOfReduce.{audit_of_reduce}
use Rattle.audit_of_reduce.proofs.Correct.{short_audit_zero}

module _ (sh : Shape) (hs : List ℕ) (k : ℕ) (map short : List ℕ) where
  abbrev answer : Answer
  answer = reduce_answer sh hs k (length map) (length short)

  answers : (reduce_of sh hs k (length map) (length short)).answer ≡ answer
  unfolding reduce_of
  answers = go (eqb answer.number 0) where
    go : (x : Bool) →
        (cond {A = Reduction} x (record { answer = answer; shape = reduced_shape sh hs k; hops = length (reduced_hops sh hs k) })
        (record { answer = answer; shape = no_shape; hops = 0 })).answer ≡ answer
    go true = refl
    go false = refl

  module _ (z : (reduce_of sh hs k (length map) (length short)).answer.number ≡ 0) where
    zero : answer.number ≡ 0
    zero = rw answers at z

    figures : reduction sh hs k accepted ≡ reduce_of sh hs k (length map) (length short)
    figures = accepted_returns sh hs k map short refl zero

    front_map : take sh.states (map_output sh hs k map short) ≡ reduced_map sh hs k
    unfolding map_list
    front_map = rw (← accepted_map sh hs k map short refl zero refl) (take_at (reduced_map sh hs k) _ sh.states (length_tabulate (reduced_state sh hs k) sh.states))

    front_short : between (short_output sh hs k map short) 0 (length (reduced_hops sh hs k)) ≡ flat (reduced_hops sh hs k)
    front_short = rw (← accepted_short sh hs k map short refl zero refl) (flat_front (reduced_hops sh hs k) _ refl)

    -- demand 3: the audit of what an accepted `reduce` left, whatever the outputs held before,
    -- accepts and finds no fault
    pub reduce_audit_zero : audit_of_reduce sh hs (reduce_of sh hs k (length map) (length short)) (map_output sh hs k map short) (short_output sh hs k map short) ≡ faultless
    unfolding audit_of_reduce
    reduce_audit_zero = rw (← figures, front_map, front_short) (short_audit_zero (reduce_reducible sh hs k (length map) (length short) zero) (sense_of k))

  -- what the code has in hand: the reduction that was returned, accepted
  module _ {red : Reduction} (e : red ≡ reduce_of sh hs k (length map) (length short)) (z : red.answer.number ≡ 0) where
    accepts : (reduce_of sh hs k (length map) (length short)).answer.number ≡ 0
    accepts = rw e at z

    -- both fronts are there
    pub map_there : sh.states ≤ length map
    map_there = reduce_map_capacity sh hs k (length map) (length short) (zero accepts)

    pub short_there : red.hops ≤ count short
    short_there =
        let few : length (reduced_hops sh hs k) ≤ count hs = marked_within sh hs k in
        let capacity : length hs ≤ length short = reduce_short_capacity sh hs k (length map) (length short) (zero accepts) in
        rw (e, ← figures accepts) (omega arith)

    pub output_faultless : {x : Audit} {map_after short_after : List ℕ} → x ≡ audit_of_reduce sh hs red map_after short_after →
        map_after ≡ map_output sh hs k map short → short_after ≡ short_output sh hs k map short → x ≡ faultless
    output_faultless a p q = (rw (e, p, q) at a) ∙ reduce_audit_zero accepts
