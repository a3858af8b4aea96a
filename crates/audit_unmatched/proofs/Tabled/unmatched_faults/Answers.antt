-- `audit_unmatched::Tabled::unmatched_faults` meets its contract: one more state. Assumes nothing.
use Rattle.std.proofs.Common.{◌∙◌, ◌≡◌, ◌≤◌, sym, arith}
use Rattle.base_bounded.proofs.Quantifiers.{total_none, total_more, total_done}
use Rattle.graph.specs.Answers.{most_states}
use Rattle.audit_unmatched.specs.Internal.States.{unmatched_of}
use Rattle.audit_unmatched.proofs.Unmatched.{by_states, partial_most}
use Rattle.audit_unmatched.proofs.Keeping.{kept_none, kept_more, kept_first}
use Rattle.audit_unmatched.proofs.Tabled.unmatched_faults.Goals as goal

pub loop-s-init : goal.loop-s-init
loop-s-init c =
    let m = c.args.self.located.mapped in
    record {
      fresh = c.requires;
      counted = sym (total_none (unmatched_of m.shape1 m.hops1.now m.hops2.now m.map.now));
      kept = kept_none m.shape1 m.hops1.now m.hops2.now m.map.now;
    }

pub overflow_add-faults : goal.overflow_add-faults
overflow_add-faults c =
    let m = c.args.self.located.mapped in
    let few : c.loop-s.s ≤ most_states = omega (arith, m.auditable.admitted.states_most) in
    omega (
      arith,
      c.loop-s.invariant.counted,
      c.unmatched_of-of.ensures.counts,
      partial_most m.shape1 m.hops1.now m.hops2.now m.map.now c.loop-s.s few m.auditable.ready.hops_most,
    )

pub loop-s-preserved : goal.loop-s-preserved
loop-s-preserved c =
    let m = c.args.self.located.mapped in
    let v = c.loop-s.invariant in
    let of = c.unmatched_of-of.ensures in
    record {
      fresh = of.fresh;
      counted = total_more _ _ v.counted of.counts;
      kept = c.keep-first.ensures ∙ kept_more m.shape1 m.hops1.now m.hops2.now m.map.now c.loop-s.s v.kept of.names;
    }

pub returns-clause-counts : goal.returns-clause-counts
returns-clause-counts c =
    let m = c.args.self.located.mapped in
    total_done _ (omega arith) (omega arith) c.loop-s.invariant.counted ∙ by_states m.shape1 m.hops1.now m.hops2.now m.map.now

pub returns-clause-names : goal.returns-clause-names
returns-clause-names c =
    let m = c.args.self.located.mapped in
    let all : c.loop-s.s ≡ m.shape1.states = omega arith in
    kept_first m.shape1 m.hops1.now m.hops2.now m.map.now (rw all at c.loop-s.invariant.kept)
