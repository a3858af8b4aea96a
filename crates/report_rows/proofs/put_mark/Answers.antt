-- What stands at the place gives the line, or says that there is none.
use Rattle.std.proofs.Common.{sym, ◌∙◌}
use Rattle.report_text.proofs.Puts.{written_none, written_same, capacity_same}
use Rattle.report_rows.proofs.Parts.{mark_yes, mark_no}
use Rattle.report_rows.proofs.put_mark.Goals as goal

pub put_line-requires : goal.put_line-requires
put_line-requires c =
    capacity_same (mark_yes _ _ _ c.if-is_marked.true (c.from-from.ensures ∙ c.from_at.ensures) (c.from-to.ensures ∙ c.to_at.ensures)) c.requires.capacity

pub returns-then-is_marked : goal.returns-then-is_marked
returns-then-is_marked c =
    written_same (sym (mark_yes _ _ _ c.if-is_marked.true (c.from-from.ensures ∙ c.from_at.ensures) (c.from-to.ensures ∙ c.to_at.ensures))) c.put_line.ensures

pub returns-else-is_marked : goal.returns-else-is_marked
returns-else-is_marked c = written_same (sym (mark_no _ _ _ c.if-is_marked.false)) (written_none _)
