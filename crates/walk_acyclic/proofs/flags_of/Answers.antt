-- The flag of state s is read, and in the end all are there. Assumes nothing.
use native.Mathlib.Omega.{arith}
use Rattle.std.proofs.Common.{◌∙◌, false, length-set, map}
use Rattle.std.proofs.lemmas.List.Edits.{fill_by_more}
use Rattle.walk_reach.specs.Internal.Frontier.{visited}
use Rattle.walk_acyclic.proofs.Flags.{raised_at}
use Rattle.walk_acyclic.proofs.flags_of.Goals as goal

pub loop-s-preserved : goal.loop-s-preserved
loop-s-preserved g c =
    let read = c.is_raised.ensures ∙ raised_at g.F.Flag.raised c.args.ranked.now c.loop-s.s _ (omega arith) c.index-ranked-s.is in
    record {
      size = simp length-set c.loop-s.invariant.size;
      filled = rw read (fill_by_more (visited (map g.F.Flag.raised c.args.ranked.now)) c.loop-s.flags c.loop-s.s false (omega arith) c.loop-s.invariant.filled);
    }

pub returns : goal.returns
unfolding visited
returns g c = λ t l. c.loop-s.invariant.filled t (omega arith)
