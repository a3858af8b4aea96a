-- `mark_batch_tables::put_answers`: the first i hops have answered. Assumes nothing.
use Rattle.mark_batch_tables.proofs.Answered.{Answered}
use Rattle.mark_batch_tables.proofs.put_answers.Given as goal

abbrev pub invariant-loop-i : goal.invariant-loop-i
invariant-loop-i l = Answered l.hops l.labels l.ends l.i l.out
