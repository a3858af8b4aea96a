-- `file_encode::put_names`: after i steps the first i names' bytes stand in their place. Assumes
-- nothing.
use mathlib.Core.Path.{◌≡◌}
use lib.ListN.{take}
use Rattle.base_outputs.specs.Internal.Output.{over_at}
use Rattle.file_encode.proofs.put_names.Given as goal

abbrev pub invariant-loop-i : goal.invariant-loop-i
invariant-loop-i l = l.out ≡ over_at l.at (take l.i l.names) l.initial.out
