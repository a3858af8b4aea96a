-- The search finds the one place where the hop can stand. Assumes nothing.
use Rattle.mark_worklist_push.proofs.Walks.{pair_gap, pair_there, pair_at}
use Rattle.mark_worklist_push.proofs.push_pair.Goals as goal

pub push-requires-clause-place : goal.push-requires-clause-place
push-requires-clause-place c =
    (pair_there _ c.args.graph.marks.now c.args.graph.index.ready.ascending _ _ c.hop_of.ensures c.find.ensures c.in-Ok.is).0

pub push-requires-clause-silent : goal.push-requires-clause-silent
push-requires-clause-silent c =
    (pair_there _ c.args.graph.marks.now c.args.graph.index.ready.ascending _ _ c.hop_of.ensures c.find.ensures c.in-Ok.is).1

pub returns-in-Ok : goal.returns-in-Ok
returns-in-Ok c = pair_at _ _ c.args.graph.index.ready.ascending _ _ c.hop_of.ensures c.find.ensures c.in-Ok.is c.push.ensures

pub returns-in_default : goal.returns-in_default
returns-in_default c = pair_gap _ _ c.args.graph.index.ready.ascending _ _ c.hop_of.ensures c.find.ensures c.in_default.is c.requires.queue
