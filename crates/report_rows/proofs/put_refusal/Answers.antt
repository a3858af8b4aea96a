-- The line of a refusal is by definition the text that is put.
use Rattle.report_rows.specs.Rows.{refusal_of}
use Rattle.report_rows.proofs.put_refusal.Goals as goal

pub put_line-requires : goal.put_line-requires
unfolding refusal_of
put_line-requires c = c.requires

pub returns : goal.returns
unfolding refusal_of
returns c = c.put_line.ensures
