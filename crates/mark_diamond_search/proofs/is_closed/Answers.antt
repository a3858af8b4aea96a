-- s3 is s4, or the search finds the one place where the silent hop to s4 can stand. Assumes
-- nothing.
use Rattle.std.proofs.Common.{sym, ◌∙◌, arith, true-eqb, false-eqb}
use Rattle.mark_confluence.proofs.Closing.{closing_same}
use Rattle.mark_diamond_merge.proofs.Along.{found_marked_lem, found_closes}
use Rattle.mark_diamond_search.proofs.is_closed.Goals as goal

pub is_held-requires : goal.is_held-requires
is_held-requires c p d =
    omega (
      arith,
      found_marked_lem c.args.graph.index.hops.now c.args.graph.marks.now c.args.graph.index.ready.ascending _ _ c.hop_of.ensures c.find.ensures d,
      c.args.graph.capacity,
    )

pub returns-then-eq : goal.returns-then-eq
returns-then-eq c = c.if-eq.true ∙ sym (closing_same _ _ _ (true-eqb _ _ c.if-eq.ensures))

pub returns-else-eq : goal.returns-else-eq
returns-else-eq c =
    found_closes _ _ c.args.graph.index.ready.ascending _ _ c.hop_of.ensures c.find.ensures (false-eqb _ _ c.if-eq.ensures) c.is_held.ensures
