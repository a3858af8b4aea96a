-- Each hop of the start that is passed is answered.
use Rattle.std.proofs.Common.{◌≡◌, ℕ, ◌<◌, true}
use Rattle.graph.specs.Hops.{from, to}
use Rattle.mark_confluence.specs.Rounds.{closing, answers, tried}
use Rattle.mark_confluence.specs.Internal.MarkSet.{mark_set}
use Rattle.mark_diamond.proofs.Rows.{Own}
use Rattle.mark_diamond_retest.proofs.closes_again.Given as goal

abbrev pub invariant-loop-j : goal.invariant-loop-j
invariant-loop-j g l =
    let hs = l.index.hops.now in
    let s1 = from hs l.fn.i in
    let s2 = to hs l.fn.i in
    record {
      own : Own hs s1 l.j-end l.j;
      answered : (k : ℕ) → k < l.j → tried hs (answers hs (closing (mark_set hs l.graph.marks.now))) s1 s2 k ≡ true;
    }
