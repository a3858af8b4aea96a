-- `file_lines::put_lines`: a line more. Assumes nothing.
use native.Mathlib.Omega.{arith}
use Rattle.file_lines.proofs.Laws.{lines_none, lines_more, lines_done}
use Rattle.file_lines.proofs.put_lines.Goals as goal

pub loop-i-init : goal.loop-i-init
loop-i-init c = lines_none c.args.hops.now c.args.at c.args.out.now

pub loop-i-preserved : goal.loop-i-preserved
loop-i-preserved c =
    lines_more c.args.hops.now c.args.at c.args.out.now c.loop-i.invariant c.line_at.ensures c.put_number.ensures (omega arith) c.requires

pub returns : goal.returns
returns c =
    lines_done c.args.hops.now c.args.at c.args.out.now c.loop-i.invariant c.hop_count-i-end.ensures (omega arith) (omega arith)
