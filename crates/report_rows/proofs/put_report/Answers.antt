-- The five parts stand one behind the other.
use Rattle.report_text.proofs.Puts.{capacity_first, capacity_rest, written_then}
use Rattle.report_rows.specs.Rows.{lines_of}
use Rattle.report_rows.proofs.Parts.{map_front}
use Rattle.report_rows.proofs.put_report.Goals as goal

pub put_line-requires : goal.put_line-requires
unfolding lines_of
put_line-requires c = rw c.hop_count.ensures (capacity_first _ _ c.requires.capacity)

pub put_marks-requires-clause-capacity : goal.put_marks-requires-clause-capacity
unfolding lines_of
put_marks-requires-clause-capacity c =
    let w1 = rw c.hop_count.ensures at c.put_line.ensures in
    capacity_first _ _ (capacity_rest _ _ c.requires.capacity w1)

pub put_map-requires-clause-capacity : goal.put_map-requires-clause-capacity
unfolding lines_of
put_map-requires-clause-capacity c =
    let w1 = rw c.hop_count.ensures at c.put_line.ensures in
    rw (map_front _ _ c.requires.mapped) (capacity_first _ _ (capacity_rest _ _ (capacity_rest _ _ c.requires.capacity w1) c.put_marks.ensures))

pub put_line-requires-2 : goal.put_line-requires-2
unfolding lines_of
put_line-requires-2 c =
    let w1 = rw c.hop_count.ensures at c.put_line.ensures in
    let w3 = rw (map_front _ _ c.requires.mapped) at c.put_map.ensures in
    rw c.hop_count-2.ensures
    (capacity_first _ _ (capacity_rest _ _ (capacity_rest _ _ (capacity_rest _ _ c.requires.capacity w1) c.put_marks.ensures) w3))

pub put_hops-requires : goal.put_hops-requires
unfolding lines_of
put_hops-requires c =
    let w1 = rw c.hop_count.ensures at c.put_line.ensures in
    let w3 = rw (map_front _ _ c.requires.mapped) at c.put_map.ensures in
    let w4 = rw c.hop_count-2.ensures at c.put_line-2.ensures in
    capacity_rest _ _ (capacity_rest _ _ (capacity_rest _ _ (capacity_rest _ _ c.requires.capacity w1) c.put_marks.ensures) w3) w4

pub returns : goal.returns
unfolding lines_of
returns c =
    let w1 = rw c.hop_count.ensures at c.put_line.ensures in
    let w3 = rw (map_front _ _ c.requires.mapped) at c.put_map.ensures in
    let w4 = rw c.hop_count-2.ensures at c.put_line-2.ensures in
    let r1 = c.requires.capacity in
    let r2 = capacity_rest _ _ r1 w1 in
    let r3 = capacity_rest _ _ r2 c.put_marks.ensures in
    let r4 = capacity_rest _ _ r3 w3 in
    written_then _ _ r1 w1
    (written_then _ _ r2 c.put_marks.ensures
    (written_then _ _ r3 w3 (written_then _ _ r4 w4 c.put_hops.ensures)))
