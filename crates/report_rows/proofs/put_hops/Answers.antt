-- Each turn puts the line of the hop at the index behind those before it.
use Rattle.report_text.proofs.Puts.{lines_none, lines_capacity, lines_more}
use Rattle.std.proofs.Common.{arith}
use Rattle.report_rows.proofs.put_hops.Goals as goal

pub loop-i-init : goal.loop-i-init
loop-i-init c = lines_none _

pub put_hop_line-requires-clause-capacity : goal.put_hop_line-requires-clause-capacity
put_hop_line-requires-clause-capacity c = lines_capacity _ _ c.requires (omega arith) c.loop-i.invariant

pub loop-i-preserved : goal.loop-i-preserved
loop-i-preserved c = lines_more _ _ c.requires (omega arith) c.loop-i.invariant c.put_hop_line.ensures
