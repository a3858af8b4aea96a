-- The marks that sweeps begin with hold the marked set. Assumes nothing.
use Rattle.mark_confluence.specs.Rounds.{marked}
use Rattle.mark_confluence.proofs.Marked.{marked_confluent}
use Rattle.mark_removal.proofs.Fixpoint.{first_marking}
use Rattle.mark_confluence.specs.Internal.MarkSet.{every_pair}
use Rattle.mark_confluence.proofs.Marks.{marks_over}
use Rattle.mark_sweeps.proofs.mark_all.Goals as goal

pub sweep_to_fixpoint-requires : goal.sweep_to_fixpoint-requires
sweep_to_fixpoint-requires c = first_marking _ _ (marked_confluent _).silent _ _ c.requires.capacity c.start_marks.ensures

pub returns : goal.returns
returns c = marks_over c.args.hops.now (marked c.args.hops.now) every_pair c.args.marks.now c.start_marks.ensures c.sweep_to_fixpoint.ensures
