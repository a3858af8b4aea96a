-- The hops of both ends are walked side by side, and each passed is answered.
use Rattle.std.proofs.Common.{◌≡◌, ℕ, ◌<◌, true}
use Rattle.graph.specs.Hops.{from, to}
use Rattle.mark_confluence.specs.Rounds.{closing, answers, tried}
use Rattle.mark_confluence.specs.Internal.MarkSet.{mark_set}
use Rattle.mark_diamond.proofs.Rows.{Walk, Beside}
use Rattle.mark_diamond.proofs.closes_at.Given as goal

abbrev pub invariant-loop-j : goal.invariant-loop-j
invariant-loop-j l =
    let hs = l.index.hops.now in
    let s1 = from hs l.fn.i in
    let s2 = to hs l.fn.i in
    record {
      walk : Walk hs s1 s2 l.j-end l.past l.at l.j;
      beside : Beside hs s2 l.j-end l.past l.same l.j;
      answered : (k : ℕ) → k < l.j → tried hs (answers hs (closing (mark_set hs l.graph.marks.now))) s1 s2 k ≡ true;
    }
