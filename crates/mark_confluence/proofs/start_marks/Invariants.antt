-- The places passed hold their first marks, the others what they held.
use Rattle.std.proofs.Common.{◌≡◌}
use Rattle.base_bounded.specs.Quantifiers.{tabulate}
use Rattle.base_outputs.specs.Output.{on_front}
use Rattle.mark_confluence.specs.Marks.{mark_of}
use Rattle.mark_confluence.specs.Internal.MarkSet.{every_pair}
use Rattle.mark_confluence.proofs.start_marks.Given as goal

abbrev pub invariant-loop-i : goal.invariant-loop-i
invariant-loop-i l = l.marks ≡ on_front (tabulate l.i (mark_of l.hops every_pair)) l.initial.marks
