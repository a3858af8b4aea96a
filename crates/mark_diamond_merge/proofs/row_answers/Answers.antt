-- The ways out of the walk over s2's hops, and what its next step keeps. Assumes nothing.
use Rattle.std.proofs.Common.{refl, sym, ◌∙◌, arith, true-eqb, false-eqb}
use Rattle.graph.specs.Hops.{hop_of}
use Rattle.mark_confluence.specs.Internal.MarkSet.{mark_set}
use Rattle.graph_successors.proofs.Firsts.{range_more}
use Rattle.graph_successors.proofs.Rows.{row_absent}
use Rattle.mark_confluence.proofs.Closing.{closing_is, closing_same}
use Rattle.mark_diamond_merge.proofs.Rows.{unlike, alike, row_answers, row_ends}
use Rattle.mark_diamond_merge.proofs.Along.{along_start, along_next, found_marked_lem, found_closes}
use Rattle.mark_diamond_merge.proofs.row_answers.Goals as goal

pub loop-k-init : goal.loop-k-init
loop-k-init c =
    record {
      none = λ j l m. absurd (omega arith);
      along = along_start c.args.graph.index.hops.now c.args.graph.index.ready.ascending _ c.first-m.ensures c.past-end.ensures.is_next;
    }

pub returns-then-ne : goal.returns-then-ne
returns-then-ne c =
    row_ends c.args.graph.index.hops.now c.args.graph.index.ready.ascending _ _ _ _ c.requires.row c.loop-k.k (omega arith) c.loop-k.invariant.none
    (λ m q. unlike c.if-ne.ensures (c.label_at.ensures ∙ q))

pub returns-then-eq : goal.returns-then-eq
returns-then-eq c =
    row_answers c.args.graph.index.hops.now c.args.graph.index.ready.ascending _ _ _ _ c.requires.row {k = c.loop-k.k} (omega arith) (omega arith)
    (sym c.label_at.ensures ∙ alike c.if-ne.ensures) c.to_at-s4.ensures
    (sym (closing_same (mark_set _ c.args.graph.marks.now) _ _ (true-eqb _ _ c.if-eq.ensures))) refl

pub find_ahead-found-requires-clause-absent : goal.find_ahead-found-requires-clause-absent
find_ahead-found-requires-clause-absent c =
    rw c.hop_of.ensures (row_absent c.args.graph.index.hops.now c.args.graph.index.ready.ascending (hop_of _ 0 _) c.past-end.ensures.is_next)

pub is_held-requires : goal.is_held-requires
is_held-requires c p d =
    omega (
      arith,
      found_marked_lem c.args.graph.index.hops.now c.args.graph.marks.now c.args.graph.index.ready.ascending _ _ c.hop_of.ensures c.find_ahead-found.ensures d,
      c.args.graph.capacity,
    )

pub returns-then-is_held : goal.returns-then-is_held
returns-then-is_held c =
    row_answers c.args.graph.index.hops.now c.args.graph.index.ready.ascending _ _ _ _ c.requires.row {k = c.loop-k.k} (omega arith) (omega arith)
    (sym c.label_at.ensures ∙ alike c.if-ne.ensures) c.to_at-s4.ensures
    (found_closes _ _ c.args.graph.index.ready.ascending _ _ c.hop_of.ensures c.find_ahead-found.ensures (false-eqb _ _ c.if-eq.ensures) c.is_held.ensures)
    c.if-is_held.true

pub loop-k-preserved : goal.loop-k-preserved
loop-k-preserved c =
    let t = c.to_at-s4.ensures in
    let q = c.hop_of.ensures in
    let f = c.find_ahead-found.ensures in
    record {
      none = range_more c.loop-k.invariant.none
          (closing_is _ _ t (found_closes _ _ c.args.graph.index.ready.ascending _ _ q f (false-eqb _ _ c.if-eq.ensures) c.is_held.ensures) c.if-is_held.false);
      along = along_next c.args.graph.index.hops.now c.args.graph.index.ready.ascending _ c.requires.row c.loop-k.invariant.along (omega arith) (omega arith)
          (sym c.label_at.ensures ∙ alike c.if-ne.ensures) t q f c.place_of-m.ensures;
    }

pub returns : goal.returns
returns c =
    row_ends c.args.graph.index.hops.now c.args.graph.index.ready.ascending _ _ _ _ c.requires.row c.loop-k.k (omega arith) c.loop-k.invariant.none
    (λ m q. absurd (omega arith))
