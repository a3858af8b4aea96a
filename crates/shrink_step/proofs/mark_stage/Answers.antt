-- `shrink_step::mark_stage` meets its contract: a mark stands exactly where a hop of the marked set
-- does. Assumes nothing.
use Rattle.std.proofs.Common.{◌∙◌, arith}
use Rattle.graph_successors.proofs.Firsts.{admitted_indexable}
use Rattle.mark_senses.specs.Internal.Numbers.{sense_number}
use Rattle.shrink_step.proofs.Marking.{any_front, some_result}
use Rattle.shrink_step.proofs.mark_stage.Goals as goal

pub put_starts-requires : goal.put_starts-requires
put_starts-requires c = admitted_indexable c.requires.reducible.admitted

pub invariant_of-graph-clause-ready : goal.invariant_of-graph-clause-ready
invariant_of-graph-clause-ready c = admitted_indexable c.requires.reducible.admitted

pub returns-clause-some : goal.returns-clause-some
returns-clause-some c =
    some_result (sense_number c.args.sense) c.args.shape c.args.hops.now _ c.args.marks.now c.mark_by_sense.ensures c.hop_count.ensures
    (c.is_any.ensures ∙ any_front _ _ (omega arith))
