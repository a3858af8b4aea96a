-- The part of the table between two begins is the places of the hops into s. Assumes nothing.
use Rattle.std.proofs.Common.{arith}
use Rattle.base_bounded.proofs.Slots.{key_start_step}
use Rattle.graph.specs.Hops.{count, to}
use Rattle.mark_worklist_push.proofs.Walks.{places_into}
use Rattle.mark_worklist_push.proofs.Predecessors.hops_into.Goals as goal

pub slice_bounds-result-count : goal.slice_bounds-result-count
slice_bounds-result-count c =
    let hs = c.args.self.marked.index.hops.now in
    omega (arith, key_start_step (to hs) (count hs) c.args.s, c.begin.ensures.is_begin, c.end.ensures.is_next)

pub slice_bounds-result-start : goal.slice_bounds-result-start
slice_bounds-result-start c =
    let hs = c.args.self.marked.index.hops.now in
    omega (arith, key_start_step (to hs) (count hs) c.args.s, c.begin.ensures.is_begin, c.end.ensures.is_next)

pub returns : goal.returns
returns c =
    let hs = c.args.self.marked.index.hops.now in
    places_into hs c.args.self.places.now c.args.self.tables.filled c.args.s c.begin.ensures.is_begin c.end.ensures.is_next (omega arith)
