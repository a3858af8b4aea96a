-- The state that is found is the least on a ring, and where none is found there is none. Assumes
-- nothing.
use native.Mathlib.Omega.{arith}
use Rattle.std.proofs.Common.{◌∙◌, refl}
use Rattle.base_bounded.proofs.Quantifiers.{least_none, least_more, least_found, least_done}
use Rattle.walk_silent.specs.Silent.{lowest_on_ring}
use Rattle.walk_rings.proofs.lowest_unranked.Goals as goal

pub loop-s-init : goal.loop-s-init
loop-s-init c = record { seen_size = refl; queue_size = refl; none = least_none _ }

pub returns-then-is_on_ring : goal.returns-then-is_on_ring
unfolding lowest_on_ring
returns-then-is_on_ring c =
    (omega arith, least_found _ _ (omega arith) c.loop-s.invariant.none (rw c.is_on_ring.ensures at c.if-is_on_ring.true))

pub loop-s-preserved : goal.loop-s-preserved
loop-s-preserved c = record {
  seen_size = c.is_on_ring.auto.seen ∙ c.loop-s.invariant.seen_size;
  queue_size = c.is_on_ring.auto.queue ∙ c.loop-s.invariant.queue_size;
  none = least_more _ _ c.loop-s.invariant.none (rw c.is_on_ring.ensures at c.if-is_on_ring.false);
}

pub returns : goal.returns
unfolding lowest_on_ring
returns c = least_done _ (omega arith) (omega arith) c.loop-s.invariant.none
