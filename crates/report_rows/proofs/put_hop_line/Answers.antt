-- The four numbers that were read are those of the line.
use Rattle.std.proofs.Common.{sym, ◌∙◌}
use Rattle.report_text.proofs.Puts.{written_same, capacity_same}
use Rattle.report_rows.proofs.Parts.{hop_parts}
use Rattle.report_rows.proofs.put_hop_line.Goals as goal

pub put_line-requires : goal.put_line-requires
put_line-requires c = capacity_same (hop_parts _ _
    (c.from-from.ensures ∙ c.new_from_at.ensures) (c.from-label.ensures ∙ c.label_at.ensures) (c.from-to.ensures ∙ c.new_to_at.ensures) (c.from-source.ensures ∙ c.line_at.ensures)) c.requires.capacity

pub returns : goal.returns
returns c = written_same (sym (hop_parts _ _
    (c.from-from.ensures ∙ c.new_from_at.ensures) (c.from-label.ensures ∙ c.label_at.ensures) (c.from-to.ensures ∙ c.new_to_at.ensures) (c.from-source.ensures ∙ c.line_at.ensures))) c.put_line.ensures
