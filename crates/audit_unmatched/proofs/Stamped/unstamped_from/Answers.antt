-- `audit_unmatched::Stamped::unstamped_from` meets its contract: one more place is looked at.
-- Assumes nothing.
use Rattle.std.proofs.Common.{◌∙◌, ℕ, Bool, sym, arith}
use Rattle.base_bounded.proofs.Quantifiers.{least_within, tally_more, tally_skip, tally_within}
use Rattle.base_bounded.proofs.Least.{tally_least}
use Rattle.graph.specs.Hops.{count}
use Rattle.audit_unmatched.specs.Internal.States.{unstamped}
use Rattle.audit_unmatched.specs.declared.Stamped.{Stamped}
use Rattle.audit_unmatched.proofs.Own.{count_ends}
use Rattle.audit_unmatched.proofs.Stamped.unstamped_from.Goals as goal
use Rattle.audit_unmatched.proofs.Stamped.unstamped_from.Goals.{then-is_unstamped, else-is_unstamped}

-- what is counted
abbrev test : Stamped → ℕ → Bool
test s = unstamped s.index2.hops.now s.stamps.now s.r.0 s.k

pub loop-j-init : goal.loop-j-init
loop-j-init c =
    let t = test c.args.self in
    let n = count c.args.self.index2.hops.now in
    record { within = omega (arith, c.requires, least_within t n); counted = rw c.requires (sym (tally_least t n)) }

pub overflow_add-faults : goal.overflow_add-faults
overflow_add-faults c = omega (arith, tally_within (test c.args.self) c.loop-j.j, c.loop-j.invariant.counted, c.args.self.index2.ready.hops_most)

pub loop-j-preserved : goal.loop-j-preserved
loop-j-preserved c =
    let t = test c.args.self in
    let j = c.loop-j.j in
    let v = c.loop-j.invariant.counted in
    record {
      within = omega arith;
      counted = elim c.if-is_unstamped.branch [
        | then-is_unstamped w ↦ w.faults-is ∙ tally_more t j v (sym c.is_unstamped.ensures ∙ w.if-is_unstamped.true)
        | else-is_unstamped w ↦ w.faults-is ∙ tally_skip t j v (sym c.is_unstamped.ensures ∙ w.if-is_unstamped.false)
      ];
    }

pub returns : goal.returns
returns c =
    let s = c.args.self in
    count_ends s.index2.hops.now s.stamps.now s.index2.ready.ascending s.r.0 s.k (omega arith) c.loop-j.invariant.within c.loop-j.invariant.counted
