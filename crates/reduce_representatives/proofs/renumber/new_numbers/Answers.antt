-- One state more is counted.
use Rattle.std.proofs.Common.{ℕ, ◌≡◌, ◌+◌, sym, ◌∙◌, arith, length-set}
use Rattle.std.proofs.lemmas.List.{length-replicate, get_or-replicate}
use Rattle.graph.specs.Answers.{most_states}
use Rattle.base_bounded.specs.Quantifiers.{tally}
use Rattle.base_bounded.proofs.Quantifiers.{tally_none, tally_more, tally_skip, tally_within}
use Rattle.graph_successors.proofs.Firsts.{filled_more}
use Rattle.reduce_representatives.specs.Internal.Tables.{NewNumbers, is_fixed}
use Rattle.reduce_representatives.proofs.renumber.new_numbers.Goals as goal
use Rattle.reduce_representatives.proofs.renumber.new_numbers.Goals.{then-is_fixed, else-is_fixed}

pub loop-s-init : goal.loop-s-init
loop-s-init c = record {
  long = length-replicate {A = ℕ} (most_states + 1) 0;
  counted = sym (tally_none _);
  filled = λ t l. let q : t ≡ 0 = omega arith in rw q (get_or-replicate {A = ℕ} (most_states + 1) 0 0 0 (omega arith) ∙ sym (tally_none _));
}

pub overflow_add-found : goal.overflow_add-found
overflow_add-found c = omega (arith, tally_within (is_fixed c.args.next.now) c.loop-s.s)

pub loop-s-preserved : goal.loop-s-preserved
loop-s-preserved c =
    let v = c.loop-s.invariant in
    let counted : c.if-is_fixed.found ≡ tally (c.loop-s.s + 1) (is_fixed c.args.next.now) =
    elim c.if-is_fixed.branch [
      | then-is_fixed w ↦ w.found-is ∙ tally_more _ _ v.counted (sym c.is_fixed.ensures ∙ w.if-is_fixed.true)
      | else-is_fixed w ↦ w.found-is ∙ tally_skip _ _ v.counted (sym c.is_fixed.ensures ∙ w.if-is_fixed.false)
    ] in
    record {
      long = simp length-set v.long;
      counted = counted;
      filled = filled_more (λ (t : ℕ). tally t (is_fixed c.args.next.now)) c.loop-s.news (omega arith) counted v.filled;
    }

pub returns : goal.returns
unfolding NewNumbers
returns c = λ s l. c.loop-s.invariant.filled s (omega arith)
