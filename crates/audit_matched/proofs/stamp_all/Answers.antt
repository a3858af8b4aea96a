-- `audit_matched::stamp_all` meets its contract: the hops of a state that is not visited stamp
-- nothing. Assumes nothing.
use Rattle.std.proofs.lemmas.Bool.{and_left}
use Rattle.std.proofs.Common.{◌∙◌, arith, refl, sym}
use Rattle.graph.specs.Map.{mapped}
use Rattle.audit_matched.specs.Internal.Stamps.{StampedFrom}
use Rattle.audit_matched.proofs.Rows.{flag_at, stamped_first, stamped_last, state_skipped}
use Rattle.audit_matched.proofs.stamp_all.Goals as goal
use Rattle.audit_matched.proofs.stamp_all.Goals.{then-is_raised, else-is_raised}

pub loop-u-init : goal.loop-u-init
loop-u-init g c = stamped_first _ _ _ _ _ _ c.args.located.mapped.auditable.admitted.ascending _

pub loop-u-preserved : goal.loop-u-preserved
unfolding StampedFrom
loop-u-preserved g c =
    let m = c.args.located.mapped in
    let l = c.loop-u in
    let here = flag_at g.F.Flag.raised c.args.seen.now c.from.ensures (omega arith) c.index-seen-from.is c.is_raised.ensures in
    elim c.if-is_raised.branch [
      | then-is_raised w ↦ rw w.stamps-is (w.stamp_state.ensures _ l.invariant)
      | else-is_raised w ↦
          rw w.stamps-is
          (state_skipped _ _ _ _ _ _ m.auditable.admitted.ascending l.u
          {v = mapped m.map.now l.u} refl (and_left _ _ (sym here ∙ w.if-is_raised.false)) l.stamps _ l.invariant)
    ]

pub returns : goal.returns
returns g c =
    let m = c.args.located.mapped in
    stamped_last _ _ _ _ _ _ m.auditable.admitted.range m.auditable.admitted.ascending _ _ (omega arith) c.loop-u.invariant
