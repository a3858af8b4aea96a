-- The ways out of the walk over s2's hops. Assumes nothing.
use Rattle.std.proofs.Common.{sym, ◌∙◌, arith}
use Rattle.mark_diamond_merge.proofs.Rows.{unlike, alike, row_answers, row_ends}
use Rattle.mark_diamond_search.proofs.few_answer.Goals as goal

pub returns-then-ne : goal.returns-then-ne
returns-then-ne c =
    row_ends c.args.graph.index.hops.now c.args.graph.index.ready.ascending _ _ _ _ c.requires.row c.loop-k.k (omega arith) c.loop-k.invariant
    (λ m q. unlike c.if-ne.ensures (c.label_at.ensures ∙ q))

pub returns-then-is_closed : goal.returns-then-is_closed
returns-then-is_closed c =
    row_answers c.args.graph.index.hops.now c.args.graph.index.ready.ascending _ _ _ _ c.requires.row {k = c.loop-k.k} (omega arith) (omega arith)
    (sym c.label_at.ensures ∙ alike c.if-ne.ensures)
    c.to_at.ensures c.is_closed.ensures c.if-is_closed.true

pub returns : goal.returns
returns c =
    row_ends c.args.graph.index.hops.now c.args.graph.index.ready.ascending _ _ _ _ c.requires.row c.loop-k.k (omega arith) c.loop-k.invariant
    (λ m q. absurd (omega arith))
