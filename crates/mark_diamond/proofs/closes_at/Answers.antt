-- The walk over the hops of both ends: how it begins, each step, and the ways out. Assumes nothing.
use Rattle.std.proofs.Common.{refl, ◌∙◌, arith}
use Rattle.graph.specs.Hops.{hop_of}
use Rattle.graph_successors.proofs.Rows.{row_absent}
use Rattle.mark_diamond.proofs.Rows.{walk_start, walk_row, walk_skip, walk_pass, beside_start, beside_next, like_has, answered_stays, answered_alike, tried_before, tried_done, tried_fails, tried_next}
use Rattle.mark_diamond.proofs.closes_at.Goals as goal
use Rattle.mark_diamond.proofs.closes_at.Goals.{then-not-stays+else-not-is_at, else-not-is_at-via-then-not-is_at+else-not-is_answered, else-not-is_at-via-else-not-is_at, else-not-stays}

pub loop-j-init : goal.loop-j-init
loop-j-init c =
    let up = c.args.graph.index.ready.ascending in
    let end = rw c.from_at-s1.ensures at c.past-j-end.ensures.is_next in
    let j = rw c.from_at-s1.ensures at c.first-j.ensures in
    let past = rw c.to_at-s2.ensures at c.past-past.ensures.is_next in
    let at = rw c.to_at-s2.ensures at c.first-at.ensures in
    record {
      walk = walk_start _ up _ _ _ _ end past at j;
      beside = beside_start _ up c.from_at-s1.result.0 _ _ _ at past;
      answered = tried_before _ up _ _ _ j;
    }

pub find_ahead-found-requires-clause-absent : goal.find_ahead-found-requires-clause-absent
find_ahead-found-requires-clause-absent c =
    rw c.hop_of.ensures (row_absent _ c.args.graph.index.ready.ascending (hop_of _ _ _) c.past-past.ensures.is_next)

pub is_answered-requires-clause-row : goal.is_answered-requires-clause-row
is_answered-requires-clause-row c =
    rw c.to_at-s2.ensures
    (walk_row _ c.args.graph.index.ready.ascending _ _ _ _ c.loop-j.invariant.walk c.loop-j-test.true (rw c.label_at-a.ensures at c.skip-at.ensures))

pub returns-then-not-is_answered : goal.returns-then-not-is_answered
returns-then-not-is_answered c =
    tried_fails _ c.args.graph.index.ready.ascending _ _ c.loop-j.invariant.walk.own c.loop-j-test.true _ _ c.to_at-s2.ensures c.is_answered.ensures
    c.if-not-is_answered.true

-- the hop at place j is answered: it was tried, s2 has the like hop, or s2 itself answers it
pub loop-j-preserved : goal.loop-j-preserved
loop-j-preserved c =
    let up = c.args.graph.index.ready.ascending in
    let w = c.loop-j.invariant.walk in
    let v = c.loop-j.invariant.beside in
    let f = c.loop-j.invariant.answered in
    let l = c.loop-j-test.true in
    let t = c.to_at-s2.ensures in
    elim c.if-not-stays.branch [
      | then-not-stays+else-not-is_at x ↦
          record {
            walk = rw x.at-is (walk_pass _ up _ _ _ _ (walk_skip _ up _ _ _ _ w l (rw x.label_at-a.ensures at x.skip-at.ensures)) l);
            beside = beside_next _ up _ _ _ _ w.own l v (rw (x.hop_of.ensures, x.label_at-a.ensures, x.to_at.ensures, t)) x.find_ahead-found.ensures
                (x.same-is ∙ x.place_of-same.ensures);
            answered = elim x.else-not-is_at.branch [
              | else-not-is_at-via-then-not-is_at+else-not-is_answered y ↦ tried_next _ up _ _ w.own l _ _ t y.is_answered.ensures y.if-not-is_answered.false f
              | else-not-is_at-via-else-not-is_at y ↦
                  tried_next _ up _ _ w.own l _ _ refl
                  (answered_alike _ _ _ _
                  (like_has _ up _ _ (rw (x.hop_of.ensures, x.label_at-a.ensures, x.to_at.ensures, t)) x.find_ahead-found.ensures x.is_at.ensures)
                  y.if-not-is_at.false)
                  refl f
            ];
          }
      | else-not-stays x ↦
          record {
            walk = rw x.at-is (walk_pass _ up _ _ _ _ w l);
            beside = rw x.same-is (λ i m n. v i (omega arith) n);
            answered = tried_next _ up _ _ w.own l _ _ t (answered_stays _ _ _ _ c.stays.ensures x.if-not-stays.false) refl f;
          }
    ]

pub returns : goal.returns
returns c = tried_done _ c.args.graph.index.ready.ascending _ _ c.loop-j.invariant.walk.own _ _ (omega arith) c.loop-j.invariant.answered
