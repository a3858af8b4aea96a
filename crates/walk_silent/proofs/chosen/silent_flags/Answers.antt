-- The flag of hop i is added, and in the end all are there. Assumes nothing.
use native.Mathlib.Omega.{arith}
use Rattle.std.proofs.Common.{false, length-set}
use Rattle.std.proofs.lemmas.List.Edits.{fill_by_more}
use Rattle.walk_reach.specs.Internal.Reach.{Chooses, chosen_in}
use Rattle.walk_silent.specs.Silent.{silent_at}
use Rattle.walk_silent.proofs.chosen.silent_flags.Goals as goal

pub loop-i-preserved : goal.loop-i-preserved
loop-i-preserved c = record {
  size = simp length-set c.loop-i.invariant.size;
  filled = rw c.label_at.ensures (fill_by_more (silent_at c.args.hops.now) c.loop-i.flags c.loop-i.i false (omega arith) c.loop-i.invariant.filled);
}

pub returns : goal.returns
unfolding Chooses chosen_in
returns c = λ j l. c.loop-i.invariant.filled j (omega arith)
