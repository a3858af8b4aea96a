use Rattle.report_text.specs.Internal.Text.{TextWritten}
use Rattle.report_rows.specs.Internal.Rows.{map_lines}
use Rattle.report_rows.proofs.put_map.Given as goal

-- the lines of the states before s stand there
abbrev pub invariant-loop-s : goal.invariant-loop-s
invariant-loop-s l = TextWritten l.fn.text (map_lines l.s l.map) l.text
