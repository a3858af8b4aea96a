-- `file_hops::hops::HopField::take`: after i steps the first i hops stand in front. Assumes
-- nothing.
use mathlib.Core.Path.{◌≡◌}
use Rattle.graph.specs.Internal.Hops.{over}
use Rattle.file_hops.specs.Field.{hop_in, hops_by}
use Rattle.file_hops.proofs.hops.HopField.take.Given as goal

abbrev pub invariant-loop-i : goal.invariant-loop-i
invariant-loop-i l = l.hops ≡ over (hops_by l.i (hop_in l.self.file.now l.self.at l.self.lines)) l.initial.hops
