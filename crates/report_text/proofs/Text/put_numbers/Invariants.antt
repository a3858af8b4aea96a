use Rattle.std.proofs.Common.{take}
use Rattle.report_text.specs.Text.{spaced_numbers}
use Rattle.report_text.specs.Internal.Text.{TextWritten}
use Rattle.report_text.proofs.Text.put_numbers.Given as goal

-- the numbers before the index stand there
abbrev pub invariant-loop-n : goal.invariant-loop-n
invariant-loop-n l = TextWritten l.fn.self (spaced_numbers (take l.n-index l.numbers)) l.self
