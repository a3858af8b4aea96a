-- The number stands behind the space.
use Rattle.std.proofs.Common.{[], ◌∷◌}
use Rattle.report_text.specs.Text.{spaced, decimal}
use Rattle.report_text.proofs.Puts.{capacity_first, capacity_rest, written_then}
use Rattle.report_text.proofs.Text.put_spaced.Goals as goal

pub put_byte-requires : goal.put_byte-requires
unfolding spaced
put_byte-requires c = capacity_first (32 ∷ []) (decimal _) c.requires

pub put_number-requires : goal.put_number-requires
unfolding spaced
put_number-requires c = capacity_rest (32 ∷ []) (decimal _) c.requires c.put_byte.ensures

pub returns : goal.returns
unfolding spaced
returns c = written_then (32 ∷ []) (decimal _) c.requires c.put_byte.ensures c.put_number.ensures
