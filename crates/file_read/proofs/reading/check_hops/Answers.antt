-- What is checked is the list that stands in the file. Assumes nothing.
use mathlib.Core.Path.{◌∙◌}
use Rattle.file_read.proofs.Entry.{graph_many, graph_copied}
use Rattle.file_read.proofs.reading.check_hops.Goals as goal

pub returns-then-field-gt-MOST_HOPS : goal.returns-then-field-gt-MOST_HOPS
returns-then-field-gt-MOST_HOPS c = graph_many _ c.hop_field-field.ensures.hops c.if-field-gt-MOST_HOPS.true

pub returns : goal.returns
returns c =
    let f = c.hop_field-field.ensures in
    c.check.ensures ∙ graph_copied _ f.at f.lines f.hops _ _ (rw f.file at c.take.ensures) c.shape_in.ensures c.number_place-end.ensures
