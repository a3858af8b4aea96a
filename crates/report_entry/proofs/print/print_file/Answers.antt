-- The text stands at the front of a buffer that holds it, and nothing in a shorter one.
use Rattle.std.proofs.Common.{sym, rules}
use Rattle.report_entry.specs.Report.{printed_of}
use Rattle.report_entry.proofs.Printed.{printed_none, printed_whole, front_length, front_stands}
use Rattle.report_entry.proofs.print.print_file.Goals as goal

pub returns-then-out-lt-MOST_TEXT-clause-counts : goal.returns-then-out-lt-MOST_TEXT-clause-counts
returns-then-out-lt-MOST_TEXT-clause-counts c = rw (printed_none _ (printed_of c.args.file.now) c.if-out-lt-MOST_TEXT.true)

pub returns-then-out-lt-MOST_TEXT-clause-shows : goal.returns-then-out-lt-MOST_TEXT-clause-shows
returns-then-out-lt-MOST_TEXT-clause-shows c = rw (printed_none _ (printed_of c.args.file.now) c.if-out-lt-MOST_TEXT.true)

pub returns-clause-counts : goal.returns-clause-counts
returns-clause-counts c = rw (printed_whole _ (printed_of c.args.file.now) c.if-out-lt-MOST_TEXT.false) (front_length c.print_input.ensures.put)

pub returns-clause-shows : goal.returns-clause-shows
returns-clause-shows c =
    let n = sym c.print_input.ensures.same_buffer in
    let e = front_stands c.print_input.ensures.put in
    rw (printed_whole _ (printed_of c.args.file.now) c.if-out-lt-MOST_TEXT.false, ← e) (search rules)
