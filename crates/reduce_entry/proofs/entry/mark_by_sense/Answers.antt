-- `reduce_entry::entry::mark_by_sense` meets its contract: what the rounds leave is document 01's
-- marked set, which is that of sense 1. Assumes nothing.
use Rattle.mark_senses.proofs.Marked.{marked_by_1}
use Rattle.reduce_entry.proofs.entry.mark_by_sense.Goals as goal

pub returns-in-R1 : goal.returns-in-R1
returns-in-R1 c =
    let g = c.args.ringless.graph in
    rw (c.in-R1.is, marked_by_1 g.shape g.index.hops.now g.admitted.range) c.mark_rounds.ensures.writes
