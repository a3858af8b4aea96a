-- The hops of s end where those of the next state begin. Assumes nothing.
use native.Mathlib.Omega.{arith}
use Rattle.std.proofs.Common.{◌+◌}
use Rattle.graph.proofs.Lookup.{first_within}
use Rattle.graph_successors.proofs.Firsts.{start_is}
use Rattle.graph_index.proofs.Index.past.Goals as goal

pub returns-clause-is_next : goal.returns-clause-is_next
returns-clause-is_next c = start_is _ _ c.args.self.table _ (omega (arith, c.from.ensures)) (omega (arith, c.requires)) c.place_at.ensures

pub returns-clause-within : goal.returns-clause-within
returns-clause-within c = rw (returns-clause-is_next c) (first_within c.args.self.hops.now c.args.self.ready.ascending (c.args.s + 1))
