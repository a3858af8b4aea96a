-- The representative has been entered for the states that were passed, and it is that of the state
-- that the walk is at.
use Rattle.std.proofs.Common.{◌≡◌, ◌<◌}
use Rattle.reduce_representatives.specs.Internal.Tables.{table_steps}
use Rattle.reduce_representatives.proofs.Compressed.{Way}
use Rattle.reduce_representatives.proofs.follow.compress_path.Given as goal

abbrev pub invariant-loop-passed : goal.invariant-loop-passed
invariant-loop-passed l = record { inside : l.at < l.states; way : Way l.states l.initial.next l.next; rep : l.rep.0 ≡ table_steps l.initial.next l.states l.at }
