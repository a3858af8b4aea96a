-- The order lent is that of the silent hops, and the marks that sweeps begin with hold the marked
-- set. Assumes nothing.
use Rattle.mark_confluence.specs.Internal.MarkSet.{every_pair}
use Rattle.mark_confluence.proofs.Marks.{marks_over}
use Rattle.mark_removal.proofs.Fixpoint.{first_marking}
use Rattle.mark_senses.specs.Senses.{marked_by}
use Rattle.mark_senses.specs.Internal.Numbers.{sense_number, condition_of}
use Rattle.mark_senses.proofs.Marked.{in_silent}
use Rattle.mark_batch_spread.proofs.Order.{alone}
use Rattle.mark_batch_sweeps.proofs.mark_by_sweeps.Goals as goal

pub invariant_of-silent : goal.invariant_of-silent
invariant_of-silent c = record { ready = c.args.ringless.graph.index.ready; ordered = ∣ alone c.order_of-n.ensures ∣₁ }

pub sweep_to_fixpoint-requires : goal.sweep_to_fixpoint-requires
sweep_to_fixpoint-requires c =
    let a = c.args in
    first_marking _ _ (in_silent (condition_of a.sense) a.ringless.graph.shape a.ringless.graph.index.hops.now) _ _ c.requires c.start_marks.ensures

pub returns : goal.returns
returns c =
    let a = c.args in
    marks_over a.ringless.graph.index.hops.now (marked_by (sense_number a.sense) a.ringless.graph.shape a.ringless.graph.index.hops.now) every_pair a.marks.now c.start_marks.ensures c.sweep_to_fixpoint.ensures
