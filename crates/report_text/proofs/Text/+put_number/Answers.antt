-- The digits before the last are those of the number without it.
use Rattle.std.proofs.Common.{sym, arith}
use Rattle.report_text.proofs.Decimal.{decimal_one, decimal_more}
use Rattle.report_text.proofs.Puts.{capacity_same, capacity_first, capacity_rest, written_same, written_then}
use Rattle.report_text.proofs.Text.+put_number.Goals as goal

pub put_byte-requires : goal.put_byte-requires
put_byte-requires t c = capacity_same (decimal_one _ c.if-is_digit.true) c.requires

pub returns-then-is_digit : goal.returns-then-is_digit
returns-then-is_digit t c = written_same (sym (decimal_one _ c.if-is_digit.true)) c.put_byte.ensures

pub put_number-requires : goal.put_number-requires
put_number-requires t c = (omega arith, capacity_first _ _ (capacity_same (decimal_more _ (omega arith) c.if-is_digit.false) c.requires))

pub put_byte-requires-2 : goal.put_byte-requires-2
put_byte-requires-2 t c = capacity_rest _ _ (capacity_same (decimal_more _ (omega arith) c.if-is_digit.false) c.requires) c.put_number.ensures

pub returns : goal.returns
returns t c =
    let e = decimal_more c.args.n (omega arith) c.if-is_digit.false in
    written_same (sym e) (written_then _ _ (capacity_same e c.requires) c.put_number.ensures c.put_byte-2.ensures)
