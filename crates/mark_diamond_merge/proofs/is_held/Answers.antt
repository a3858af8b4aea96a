-- A hop that was found is marked as its place says. Assumes nothing.
use Rattle.mark_confluence.specs.Internal.MarkSet.{is_marked}
use Rattle.mark_diamond_merge.proofs.is_held.Goals as goal

pub returns-in-Ok : goal.returns-in-Ok
unfolding is_marked
returns-in-Ok c = rw c.in-Ok.is
