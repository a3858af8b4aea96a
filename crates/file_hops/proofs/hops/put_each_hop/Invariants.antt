-- `file_hops::hops::put_each_hop`: after i steps the bytes of the first i hops stand in their
-- place. Assumes nothing.
use mathlib.Core.Path.{◌≡◌}
use Rattle.base_outputs.specs.Concat.{concat}
use Rattle.base_outputs.specs.Internal.Output.{over_at}
use Rattle.file_hops.proofs.Field.{hop_bytes_at}
use Rattle.file_hops.proofs.hops.put_each_hop.Given as goal

abbrev pub invariant-loop-i : goal.invariant-loop-i
invariant-loop-i l = l.out ≡ over_at l.at (concat l.i (hop_bytes_at l.hops)) l.initial.out
