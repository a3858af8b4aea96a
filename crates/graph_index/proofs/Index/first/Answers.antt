-- The table says where the hops of s begin. Assumes nothing.
use native.Mathlib.Omega.{arith}
use Rattle.graph_successors.proofs.Firsts.{start_is}
use Rattle.graph_index.proofs.Index.first.Goals as goal

pub returns : goal.returns
returns c = start_is _ _ c.args.self.table _ c.from.ensures (omega (arith, c.requires)) c.place_at.ensures
