-- No hop passed closes s3, and m brackets what is still to come.
use Rattle.std.proofs.Common.{◌≡◌, ℕ, ◌<◌, ◌≤◌, false}
use Rattle.graph.specs.Hops.{to}
use Rattle.mark_confluence.specs.Rounds.{closing}
use Rattle.mark_confluence.specs.Internal.MarkSet.{mark_set}
use Rattle.mark_diamond_merge.proofs.Along.{Along}
use Rattle.mark_diamond_merge.proofs.row_answers.Given as goal

abbrev pub invariant-loop-k : goal.invariant-loop-k
invariant-loop-k l =
    record {
      none : (j : ℕ) → l.fn.rest.at ≤ j → j < l.k → closing (mark_set l.graph.index.hops.now l.graph.marks.now) l.s3.0 (to l.graph.index.hops.now j) ≡ false;
      along : Along l.graph.index.hops.now l.a.0 l.s3.0 l.k-end l.end l.m l.k;
    }
