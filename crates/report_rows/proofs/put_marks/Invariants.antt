use Rattle.report_text.specs.Internal.Text.{TextWritten}
use Rattle.base_outputs.specs.Concat.{concat}
use Rattle.report_rows.specs.Rows.{marked_line}
use Rattle.report_rows.specs.Internal.Rows.{by_place}
use Rattle.report_rows.proofs.put_marks.Given as goal

-- the lines of the hops before the index stand there
abbrev pub invariant-loop-i : goal.invariant-loop-i
invariant-loop-i l = TextWritten l.fn.text (concat l.i (marked_line l.hops (by_place l.marks))) l.text
