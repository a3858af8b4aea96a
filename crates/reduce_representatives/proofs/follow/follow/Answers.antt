-- One step more, or the walk rests.
use Rattle.std.proofs.Common.{sym, ◌∙◌, arith}
use Rattle.reduce_representatives.specs.Internal.Tables.{ClosedTable}
use Rattle.reduce_representatives.proofs.Nexts.{table_steps_rest, table_steps_on, table_steps_done}
use Rattle.reduce_representatives.proofs.follow.follow.Goals as goal

pub loop-step-preserved : goal.loop-step-preserved
unfolding ClosedTable
loop-step-preserved c =
    let v = c.loop-step.invariant in
    rw c.from.ensures (record { inside = c.requires.closed _ v.inside; leads = sym (table_steps_on _ _ _ _ (omega arith)) ∙ v.leads })

pub returns-after-loop-step : goal.returns-after-loop-step
returns-after-loop-step c = sym (table_steps_done _ _ _ _ (omega arith)) ∙ c.loop-step.invariant.leads

pub returns-then-to-at : goal.returns-then-to-at
returns-then-to-at c = sym (table_steps_rest _ _ _ (rw c.from.ensures at c.if-to-at.true)) ∙ c.loop-step.invariant.leads
