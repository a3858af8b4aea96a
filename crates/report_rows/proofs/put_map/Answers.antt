-- Each turn puts the line of state s behind those of the states before it.
use Rattle.std.proofs.Common.{sym, arith, ◌∙◌}
use Rattle.report_text.proofs.Puts.{capacity_same, written_same, lines_none, lines_capacity, lines_more}
use Rattle.report_rows.proofs.Parts.{map_parts}
use Rattle.report_rows.proofs.put_map.Goals as goal

pub loop-s-init : goal.loop-s-init
loop-s-init c = lines_none _

pub put_line-requires : goal.put_line-requires
put_line-requires c =
    let e = c.from.ensures ∙ c.map_at-new.ensures in
    capacity_same (map_parts _ _ e) (lines_capacity _ _ c.requires.capacity (omega arith) c.loop-s.invariant)

pub loop-s-preserved : goal.loop-s-preserved
loop-s-preserved c =
    let e = c.from.ensures ∙ c.map_at-new.ensures in
    lines_more _ _ c.requires.capacity (omega arith) c.loop-s.invariant (written_same (sym (map_parts _ _ e)) c.put_line.ensures)
