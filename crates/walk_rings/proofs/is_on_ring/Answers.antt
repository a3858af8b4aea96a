-- A ranked state is on no ring, and after a search from s it is on a ring exactly if some hop leads
-- back. Assumes nothing.
use Rattle.std.proofs.Common.{◌∙◌, sym}
use Rattle.walk_reach.specs.Internal.Frontier.{visited}
use Rattle.walk_silent.proofs.Rings.{no_ring_test}
use Rattle.walk_rings.proofs.Back.{back_ring}
use Rattle.walk_rings.proofs.is_on_ring.Goals as goal

pub returns-then-ranking-from : goal.returns-then-ranking-from
unfolding visited
returns-then-ranking-from c =
    let k = c.args.ranking.now in
    sym (no_ring_test k.graph.admitted.range _ (k.unringed _ c.requires.state (rw (← c.from.ensures) c.if-ranking-from.true)))

pub returns : goal.returns
returns c = c.returns.ensures ∙ back_ring c.args.ranking.now.graph.admitted.range c.args.silent.now c.requires.silent c.args.s.0 _ _ c.reach.ensures
