-- `audit_entry::counting::sum_faults` meets its contract: the three sums, which fit, and the first
-- fault of the lowest kind. Assumes nothing.
use Rattle.std.proofs.Common.{◌∙◌, arith}
use Rattle.audit_faults.specs.Faults.{faults_of}
use Rattle.audit_faults.specs.First.{first_initial, first_lost, first_unmatched, or_else, first_fault}
use Rattle.audit_faults.proofs.Naming.{named_first}
use Rattle.audit_faults.proofs.Bound.{initial_most, lost_most, unmatched_few}
use Rattle.audit_entry.proofs.counting.sum_faults.Goals as goal

pub overflow_add-result : goal.overflow_add-result
overflow_add-result c =
    let m = c.args.mapped in
    omega (
      arith,
      c.initial_fault-initial.ensures.counts,
      c.lost_faults-lost.ensures.counts,
      initial_most m.shape1 c.args.shape2 m.map.now,
      lost_most m.hops1.now m.hops2.now m.map.now,
      m.auditable.admitted.hops_most,
    )

pub overflow_add-result-2 : goal.overflow_add-result-2
overflow_add-result-2 c =
    let m = c.args.mapped in
    omega (
      arith,
      c.initial_fault-initial.ensures.counts,
      c.lost_faults-lost.ensures.counts,
      c.all_unmatched-made_up.ensures.counts,
      initial_most m.shape1 c.args.shape2 m.map.now,
      lost_most m.hops1.now m.hops2.now m.map.now,
      unmatched_few m.shape1 m.hops1.now m.hops2.now m.map.now m.auditable.admitted.states_most m.auditable.ready.hops_most,
      m.auditable.admitted.hops_most,
    )

pub returns-clause-counts : goal.returns-clause-counts
unfolding faults_of
returns-clause-counts c =
    omega (arith, c.initial_fault-initial.ensures.counts, c.lost_faults-lost.ensures.counts, c.all_unmatched-made_up.ensures.counts)

pub returns-clause-names : goal.returns-clause-names
unfolding first_fault
returns-clause-names c =
    let m = c.args.mapped in
    let lost = first_lost m.hops1.now m.hops2.now m.map.now in
    let made_up = first_unmatched m.shape1 m.hops1.now m.hops2.now m.map.now in
    let later = c.or.ensures ∙ named_first lost made_up c.lost_faults-lost.ensures.names c.all_unmatched-made_up.ensures.names in
    c.or-2.ensures ∙ named_first (first_initial m.shape1 c.args.shape2 m.map.now) (or_else lost made_up) c.initial_fault-initial.ensures.names later
