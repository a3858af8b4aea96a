-- As many steps are left as the walk has not made.
use Rattle.std.proofs.Common.{◌≡◌, ◌<◌, ◌-◌}
use Rattle.reduce_representatives.specs.Internal.Tables.{table_steps}
use Rattle.reduce_representatives.proofs.follow.follow.Given as goal

abbrev pub invariant-loop-step : goal.invariant-loop-step
invariant-loop-step l = record { inside : l.at < l.states; leads : table_steps l.next (l.states - l._step) l.at ≡ table_steps l.next l.states l.initial.at }
