-- `audit_faults::lost::lost_from` meets its contract: one more place is looked at. Assumes nothing.
use Rattle.std.proofs.Common.{◌∙◌, ℕ, Bool, not, sym, ap, arith}
use Rattle.base_bounded.proofs.Quantifiers.{least_within, tally_more, tally_skip, tally_done, tally_within}
use Rattle.base_bounded.proofs.Least.{tally_least}
use Rattle.graph.specs.Hops.{count}
use Rattle.audit_faults.specs.Faults.{lost_faults}
use Rattle.audit_faults.specs.First.{lost_place}
use Rattle.audit_faults.specs.declared.mapped.Mapped.{Mapped}
use Rattle.audit_faults.proofs.Preserved.{lost}
use Rattle.audit_faults.proofs.lost.lost_from.Goals as goal
use Rattle.audit_faults.proofs.lost.lost_from.Goals.{then-not-is_preserved, else-not-is_preserved}

-- what is counted
abbrev test : Mapped → ℕ → Bool
test m = lost m.hops1.now m.hops2.now m.map.now

pub loop-i-init : goal.loop-i-init
unfolding lost_place
loop-i-init c =
    let m = c.args.located.mapped in
    rw c.requires (sym (tally_least (test m) (count m.hops1.now)))

pub overflow_add-faults : goal.overflow_add-faults
overflow_add-faults c =
    let m = c.args.located.mapped in
    omega (arith, tally_within (test m) c.loop-i.i, c.loop-i.invariant, m.auditable.admitted.hops_most)

pub loop-i-preserved : goal.loop-i-preserved
loop-i-preserved c =
    let t = test c.args.located.mapped in
    let i = c.loop-i.i in
    elim c.if-not-is_preserved.branch [
      | then-not-is_preserved w ↦ w.faults-is ∙ tally_more t i c.loop-i.invariant (ap not (sym c.is_preserved.ensures ∙ w.if-not-is_preserved.true))
      | else-not-is_preserved w ↦ w.faults-is ∙ tally_skip t i c.loop-i.invariant (ap not (sym c.is_preserved.ensures ∙ w.if-not-is_preserved.false))
    ]

pub returns : goal.returns
unfolding lost_faults lost_place
returns c =
    let m = c.args.located.mapped in
    let within = least_within (test m) (count m.hops1.now) in
    tally_done (test m) (omega (arith, within, c.requires)) (omega arith) c.loop-i.invariant
