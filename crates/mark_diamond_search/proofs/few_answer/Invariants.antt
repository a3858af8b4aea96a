-- No hop passed closes s3.
use Rattle.std.proofs.Common.{◌≡◌, ℕ, ◌<◌, ◌≤◌, false}
use Rattle.graph.specs.Hops.{to}
use Rattle.mark_confluence.specs.Rounds.{closing}
use Rattle.mark_confluence.specs.Internal.MarkSet.{mark_set}
use Rattle.mark_diamond_search.proofs.few_answer.Given as goal

abbrev pub invariant-loop-k : goal.invariant-loop-k
invariant-loop-k l =
    (j : ℕ) → l.fn.rest.at ≤ j → j < l.k → closing (mark_set l.graph.index.hops.now l.graph.marks.now) l.s3.0 (to l.graph.index.hops.now j) ≡ false
