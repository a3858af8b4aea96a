-- `graph::hops::is_hop_at` meets its contract: the code is the definition. Assumes nothing.
use Rattle.graph.specs.Hops.{is}
use Rattle.graph.proofs.hops.is_hop_at.Goals as goal

pub returns : goal.returns
unfolding is
returns c = rw (c.is_same.ensures, c.hop_at.ensures)
