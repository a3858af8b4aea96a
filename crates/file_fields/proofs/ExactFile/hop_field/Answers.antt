-- The hops and their lines lie within a file of the length that its numbers ask. Assumes nothing.
use mathlib.Core.Path.{◌∙◌}
use Rattle.file_fields.proofs.Laws.{lines_lie, hops_lie}
use Rattle.file_fields.proofs.ExactFile.hop_field.Goals as goal

pub invariant_of-result-clause-lie : goal.invariant_of-result-clause-lie
invariant_of-result-clause-lie c = hops_lie _ c.args.self.exact c.hops_place.ensures (c.from.ensures ∙ c.hops_in.ensures)

pub invariant_of-result-clause-lined : goal.invariant_of-result-clause-lined
invariant_of-result-clause-lined c = lines_lie _ c.args.self.exact c.lines_in.ensures (c.from.ensures ∙ c.hops_in.ensures)
