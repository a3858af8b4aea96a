-- The table says where the hops into s begin. Assumes nothing.
use Rattle.std.proofs.Common.{arith}
use Rattle.base_bounded.proofs.Slots.{key_start_within}
use Rattle.graph.specs.Hops.{count, to}
use Rattle.mark_worklist_push.proofs.Walks.{begin_is}
use Rattle.mark_worklist_push.proofs.Predecessors.begin.Goals as goal

pub returns-clause-is_begin : goal.returns-clause-is_begin
returns-clause-is_begin c = begin_is _ _ c.args.self.tables.begins c.args.s c.from.ensures (omega (arith, c.requires)) c.place_at.ensures

pub returns-clause-within : goal.returns-clause-within
returns-clause-within c = rw (returns-clause-is_begin c) (key_start_within (to c.args.self.marked.index.hops.now) (count c.args.self.marked.index.hops.now) c.args.s)
