-- `mark_batch_tables::put_stay`: the first s words are put. Assumes nothing.
use Rattle.std.proofs.Common.{◌≡◌, length}
use Rattle.graph.specs.Answers.{most_states}
use Rattle.mark_batch_tables.proofs.Answered.{Stayed}
use Rattle.mark_batch_tables.proofs.put_stay.Given as goal

abbrev pub invariant-loop-s : goal.invariant-loop-s
invariant-loop-s l = record { long : length l.out ≡ most_states; stayed : Stayed l.ends l.silent l.s l.out }
