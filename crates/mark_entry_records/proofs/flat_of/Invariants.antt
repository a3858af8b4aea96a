-- The array holds the numbers of the first i records.
use Rattle.std.proofs.Common.{◌≡◌}
use Rattle.mark_entry_records.proofs.Flats.{done}
use Rattle.mark_entry_records.proofs.flat_of.Given as goal

abbrev pub invariant-loop-i : goal.invariant-loop-i
invariant-loop-i l = l.nums ≡ done l.hops l.initial.nums l.i
