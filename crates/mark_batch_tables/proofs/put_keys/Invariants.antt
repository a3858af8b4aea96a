-- `mark_batch_tables::put_keys`: the first b bits are put. Assumes nothing.
use Rattle.graph.specs.Internal.Key.{number_by_at}
use Rattle.mark_batch_tables.specs.Internal.BatchTables.{KeyTable}
use Rattle.mark_batch_tables.proofs.put_keys.Given as goal

abbrev pub invariant-loop-b : goal.invariant-loop-b
invariant-loop-b l = KeyTable (number_by_at l.key l.hops) l.batch.base l.b l.words
