-- Before each iteration the code is at a stage of the repetition. Assumes nothing.
use mathlib.Core.Path.{◌≡◌}
use lib.ListN.{length}
use Rattle.graph.specs.Hops.{between}
use Rattle.mark_senses.specs.Internal.Numbers.{sense_number}
use Rattle.shrink_entry.proofs.Standing.{Standing, left}
use Rattle.shrink_entry.proofs.repeat.Given as goal

abbrev pub invariant-loop-at : goal.invariant-loop-at
invariant-loop-at l = record {
  stands : Standing (sense_number l.sense) l.initial.at.shape (between l.initial.hops 0 l.n) l.at l.hops l.map;
  hops_length : length l.hops ≡ length l.initial.hops;
  map_length : length l.map ≡ length l.initial.map;
}

abbrev pub decreases-loop-at : goal.decreases-loop-at
decreases-loop-at l = left l.at
