-- `file_hops::hops::HopField::hop_in`: the code is the definition. Assumes nothing.
use native.Mathlib.Omega.{arith}
use Rattle.file_lines.proofs.Laws.{lines_lie_fewer}
use Rattle.file_hops.specs.Field.{hop_from}
use Rattle.file_hops.proofs.hops.HopField.hop_in.Goals as goal

pub returns : goal.returns
unfolding hop_from
returns c = cc

pub line_in-requires : goal.line_in-requires
line_in-requires c = lines_lie_fewer _ c.args.self.lines (omega arith) c.args.self.lined
