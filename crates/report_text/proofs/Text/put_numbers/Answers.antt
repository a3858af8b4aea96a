-- Each turn writes the number at the index behind those before it.
use Rattle.report_text.specs.Text.{spaced_numbers}
use Rattle.report_text.proofs.Puts.{written_none, numbers_capacity, numbers_more}
use Rattle.report_text.proofs.Text.put_numbers.Goals as goal

pub loop-n-init : goal.loop-n-init
unfolding spaced_numbers
loop-n-init c = written_none _

pub put_spaced-requires : goal.put_spaced-requires
put_spaced-requires c = numbers_capacity _ c.loop-n-test.true c.requires c.loop-n.invariant

pub loop-n-preserved : goal.loop-n-preserved
loop-n-preserved c = numbers_more _ c.loop-n-test.true c.requires c.loop-n.invariant c.put_spaced.ensures
