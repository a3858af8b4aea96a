-- One measure falls with each call: three times the rounds left, and what is left of the round. X's
-- loop has passed only hops that are answered, Y's only hops that do not close; the table stays
-- right.
use Rattle.std.proofs.Common.{◌≡◌, ℕ, ◌+◌, ◌-◌, ◌*◌, true, false}
use Rattle.graph.specs.Hops.{from, to}
use Rattle.graph.specs.Search.{first_of}
use Rattle.graph.specs.Internal.Search.{labelled_from}
use Rattle.mark_confluence.specs.Rounds.{closing, survives}
use Rattle.mark_confluence.specs.Internal.Rounds.{answered}
use Rattle.mark_equations.specs.Internal.Known.{Right}
use Rattle.mark_equations.proofs.Equations.{Through}
use Rattle.mark_equations.proofs.+x_y_z.Given as goal

abbrev pub decreases-x : goal.decreases-x
decreases-x g l = 3 * l.k

abbrev pub decreases-y : goal.decreases-y
decreases-y g l = 3 * l.k + 2

abbrev pub decreases-z : goal.decreases-z
decreases-z g l = 3 * l.k + 1

abbrev pub invariant-x-loop-j : goal.invariant-x-loop-j
invariant-x-loop-j g l =
    record {
      all_answered : Through (λ (q : ℕ). answered l.index.hops.now (survives l.index.hops.now (l.k - 1)) l.s2.0 q ≡ true) (first_of l.index.hops.now (from l.index.hops.now l.i)) l.j;
      right : Right g.M.Memo.nothing g.M.Memo.entry_for l.index.hops.now l.known;
    }

abbrev pub invariant-y-loop-j : goal.invariant-y-loop-j
invariant-y-loop-j g l =
    record {
      none_closes : Through (λ (q : ℕ). closing (survives l.index.hops.now l.k) l.s3.0 (to l.index.hops.now q) ≡ false) (labelled_from l.index.hops.now l.s2.0 l.a.0) l.j;
      right : Right g.M.Memo.nothing g.M.Memo.entry_for l.index.hops.now l.known;
    }
