-- The hop is pushed if s4 is an s4 of its end. Assumes nothing.
use Rattle.mark_worklist_push.proofs.Walks.{asked_off, asked_again}
use Rattle.mark_worklist_push.proofs.push_answered.Goals as goal

pub returns-then-graph-i-ne1 : goal.returns-then-graph-i-ne1
returns-then-graph-i-ne1 c = asked_off _ _ _ _ _ c.if-graph-i-ne1.true c.requires.queue

pub returns-then-worklist-i : goal.returns-then-worklist-i
returns-then-worklist-i c = asked_again _ _ _ _ _ c.if-worklist-i.true c.requires.queue
