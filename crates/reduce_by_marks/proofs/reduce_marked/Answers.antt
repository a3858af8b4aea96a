-- The tables hold what the definitions say.
use Rattle.std.proofs.Common.{arith}
use Rattle.reduce_representatives.proofs.Marked.{mark_set_marks}
use Rattle.reduce_representatives.proofs.Tabled.{tabled_closed, tabled_terminating}
use Rattle.reduce_by_marks.proofs.Tabled.{tabled_from, reduced_map_lem, reduced_images, reduced_short, reduced_returns}
use Rattle.reduce_by_marks.proofs.reduce_marked.Goals as goal

pub next_states-next-requires-clause-marks : goal.next_states-next-requires-clause-marks
next_states-next-requires-clause-marks c = mark_set_marks c.requires.admitted.ascending c.requires.marks

pub next_states-next-requires-clause-tabled : goal.next_states-next-requires-clause-tabled
next_states-next-requires-clause-tabled c = tabled_from c.requires.admitted

pub invariant_of-walks : goal.invariant_of-walks
invariant_of-walks c =
    let adm = c.requires.admitted in
    let sett = c.requires.terminating in
    let on = c.next_states-next.ensures in
    record { few = adm.states_most; closed = tabled_closed adm sett _ on; terminating = ∣ tabled_terminating adm sett _ on ∣₁ }

pub shorten-n-requires-clause-tabled : goal.shorten-n-requires-clause-tabled
shorten-n-requires-clause-tabled c = tabled_from c.requires.admitted

pub shorten-n-requires-clause-imaged : goal.shorten-n-requires-clause-imaged
shorten-n-requires-clause-imaged c =
    reduced_images c.requires.admitted c.requires.terminating _ c.next_states-next.ensures _ c.new_numbers-news.ensures _ c.fill_map.ensures (omega arith)

pub returns : goal.returns
returns c =
    let adm = c.requires.admitted in
    let sett = c.requires.terminating in
    let on = c.next_states-next.ensures in
    let fill = c.new_numbers-news.ensures in
    let map = c.fill_map.ensures in
    let short = c.shorten-n.ensures in
    record {
      returned = reduced_returns adm sett _ on _ fill _ map c.short_shape.ensures short.counted;
      mapped = reduced_map_lem adm sett _ on _ fill _ map;
      shortened = reduced_short adm sett _ on _ fill _ map _ short.written;
    }
