-- `file_lines::put_lines`: after i steps the lines of the first i hops stand in their place.
-- Assumes nothing.
use mathlib.Core.Path.{◌≡◌}
use Rattle.base_outputs.specs.Concat.{concat}
use Rattle.base_outputs.specs.Internal.Output.{over_at}
use Rattle.file_lines.proofs.Laws.{line_bytes}
use Rattle.file_lines.proofs.put_lines.Given as goal

abbrev pub invariant-loop-i : goal.invariant-loop-i
invariant-loop-i l = l.out ≡ over_at l.at (concat l.i (line_bytes l.hops)) l.initial.out
