-- `mark_batch_filter::filter`: the first i hops are filtered. Assumes nothing.
use Rattle.mark_batch_filter.proofs.Filtering.{FilteredTo}
use Rattle.mark_batch_filter.proofs.filter.Given as goal

abbrev pub invariant-loop-i : goal.invariant-loop-i
invariant-loop-i l = FilteredTo l.hops l.fn.marks l.tables.froms.now l.tables.answers.now l.i l.marks l.lost
