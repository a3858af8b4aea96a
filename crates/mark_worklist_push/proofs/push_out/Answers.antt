-- What is passed are the silent hops of s1. Assumes nothing.
use Rattle.std.proofs.Common.{◌≡◌, arith, refl}
use Rattle.graph.specs.Hops.{from}
use Rattle.graph.specs.Search.{first_of}
use Rattle.graph.specs.Internal.Search.{labelled_past}
use Rattle.graph.proofs.Places.{labelled_parts}
use Rattle.graph_successors.proofs.Rows.{labelled_rising, labelled_only, silent_first}
use Rattle.mark_worklist_push.proofs.Walks.{out_all}
use Rattle.mark_worklist_push.proofs.push_out.Goals as goal

pub push_answered-requires-clause-place : goal.push_answered-requires-clause-place
push_answered-requires-clause-place c =
    let hs = c.args.graph.index.hops.now in
    (labelled_only hs c.args.graph.index.ready.ascending (from hs c.args.j) 0 {i = c.loop-i.i} (omega (arith, silent_first hs (from hs c.args.j), rw c.from_at-s1.ensures at c.first-i.ensures)) (omega (arith, rw c.from_at-s1.ensures at c.past_labelled-i-end.ensures))).0

pub push_answered-requires-clause-silent : goal.push_answered-requires-clause-silent
push_answered-requires-clause-silent c =
    let hs = c.args.graph.index.hops.now in
    (labelled_parts hs (from hs c.args.j) 0 c.loop-i.i (labelled_only hs c.args.graph.index.ready.ascending (from hs c.args.j) 0 {i = c.loop-i.i} (omega (arith, silent_first hs (from hs c.args.j), rw c.from_at-s1.ensures at c.first-i.ensures)) (omega (arith, rw c.from_at-s1.ensures at c.past_labelled-i-end.ensures))).1).1

pub returns : goal.returns
returns c =
    let hs = c.args.graph.index.hops.now in
    let up = c.args.graph.index.ready.ascending in
    let a : c.first-i.result ≡ first_of hs (from hs c.args.j) = rw c.from_at-s1.ensures at c.first-i.ensures in
    let b : c.past_labelled-i-end.result ≡ labelled_past hs (from hs c.args.j) 0 = rw c.from_at-s1.ensures at c.past_labelled-i-end.ensures in
    let o = labelled_rising hs up (from hs c.args.j) 0 in
    let f = silent_first hs (from hs c.args.j) in
    out_all _ _ _ _ up refl b (omega arith) (omega arith) c.loop-i.invariant
