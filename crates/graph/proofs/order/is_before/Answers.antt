-- `graph::order::is_before` meets its contract: one sum is below another exactly when its hop comes
-- first. Assumes nothing.
use Rattle.graph.proofs.Sums.{sums_before}
use Rattle.graph.proofs.order.is_before.Goals as goal

pub returns : goal.returns
returns c = sums_before c.is_below.ensures (c.sum_of.ensures.sum, c.sum_of.ensures.narrow) (c.sum_of-2.ensures.sum, c.sum_of-2.ensures.narrow)
