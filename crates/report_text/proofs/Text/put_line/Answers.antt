-- The word, the numbers and the line feed stand one behind the other.
use Rattle.report_text.specs.Text.{text_line}
use Rattle.report_text.proofs.Puts.{capacity_first, capacity_rest, written_then}
use Rattle.report_text.proofs.Text.put_line.Goals as goal

pub put_word-requires : goal.put_word-requires
unfolding text_line
put_word-requires c = capacity_first _ _ c.requires

pub put_numbers-requires : goal.put_numbers-requires
unfolding text_line
put_numbers-requires c = capacity_first _ _ (capacity_rest _ _ c.requires c.put_word.ensures)

pub put_byte-requires : goal.put_byte-requires
unfolding text_line
put_byte-requires c = capacity_rest _ _ (capacity_rest _ _ c.requires c.put_word.ensures) c.put_numbers.ensures

pub returns : goal.returns
unfolding text_line
returns c =
    let r = c.requires in
    written_then _ _ r c.put_word.ensures (written_then _ _ (capacity_rest _ _ r c.put_word.ensures) c.put_numbers.ensures c.put_byte.ensures)
