-- A refusal is written where nothing was. Assumes nothing.
use Rattle.report_entry.proofs.Lengths.{refusal_most}
use Rattle.report_entry.proofs.Printed.{text_capacity}
use Rattle.report_entry.proofs.print.print_input.Goals as goal

pub put_refusal-requires : goal.put_refusal-requires
put_refusal-requires c = let e = c.in-Err.ensures.1 in rw e (text_capacity (refusal_most _) c.requires)
