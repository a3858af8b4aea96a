-- `audit_matched::stamp_state` meets its contract: one more hop stamps its image, and the hops of
-- another state stamp nothing. Assumes nothing.
use Rattle.std.proofs.Common.{arith}
use Rattle.graph_successors.proofs.Firsts.{first_next}
use Rattle.audit_matched.proofs.Rows.{flag_at, on_none, on_done, state_skipped, state_more}
use Rattle.audit_matched.proofs.stamp_state.Goals as goal

pub loop-i-init : goal.loop-i-init
loop-i-init g c = rw c.first-i.ensures (on_none _ _ _ _ _ _ _ _)

pub loop-i-preserved : goal.loop-i-preserved
loop-i-preserved g c =
    let m = c.args.located.mapped in
    let here = flag_at g.F.Flag.raised c.args.seen.now c.from.ensures (omega arith) c.index-seen-from.is c.is_raised.ensures in
    state_more _ _ _ _ _ _ m.auditable.admitted.ascending _ c.image-v.ensures.maps m.auditable.ready _ c.args.located.imaged
    (rw (here, c.eq.ensures) at c.if-is_raised-eq.true) _ _ (omega arith) (omega arith) (omega arith) c.stamp_hop.ensures c.loop-i.invariant

pub returns-after-loop-i : goal.returns-after-loop-i
returns-after-loop-i g c =
    let m = c.args.located.mapped in
    on_done _ _ _ _ _ _ _ _ _
    (omega (arith, first_next m.hops1.now m.auditable.admitted.ascending c.args.u.0)) (omega arith) c.loop-i.invariant

pub returns-else-is_raised-eq : goal.returns-else-is_raised-eq
returns-else-is_raised-eq g c =
    let here = flag_at g.F.Flag.raised c.args.seen.now c.from.ensures (omega arith) c.index-seen-from.is c.is_raised.ensures in
    state_skipped _ _ _ _ _ _ c.args.located.mapped.auditable.admitted.ascending _ c.image-v.ensures.maps
    (rw (here, c.eq.ensures) at c.if-is_raised-eq.false) _
