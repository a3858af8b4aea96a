-- `reduce_entry::entry::reduce` meets its contract: a refusal writes nothing, and acceptance is
-- what the reduction requires. Assumes nothing.
use Rattle.std.proofs.lemmas.Result.{err_from_is_err_and}
use Rattle.std.proofs.Common.{refl, ap, ◌∙◌}
use Rattle.graph.proofs.Accepts.{refusal_ne0, accepts}
use Rattle.graph_check.proofs.Checked.{check_admitted}
use Rattle.graph_successors.proofs.Firsts.{admitted_indexable}
use Rattle.reduce_entry.specs.Reduce.{made_reduction}
use Rattle.reduce_entry.proofs.Answering.{answer_checked, answer_later, reduce_reducible, reduce_map_capacity, reduce_short_capacity, refused_returns, refused_map, refused_short, accepted_returns, accepted_map, accepted_short}
use Rattle.reduce_entry.proofs.entry.reduce.Goals as goal

pub returns-in_err-check : goal.returns-in_err-check
returns-in_err-check c =
    let a = c.args in
    let n = refusal_ne0 _ in
    let d = answer_checked _ _ _ _ _ c.in_err-check.ensures n in
    let p = err_from_is_err_and c.from_residual.result c.from_residual.ensures.1 in
    record {
      returned = rw (p.1, p.2) (refused_returns _ _ _ a.map.now a.short.now d n);
      mapped = refused_map _ _ _ a.map.now a.short.now d n;
      shortened = refused_short _ _ _ a.map.now a.short.now d n;
    }

pub put_starts-requires : goal.put_starts-requires
put_starts-requires c = admitted_indexable (check_admitted _ _ (accepts c.in_ok-check.ensures))

pub invariant_of-graph-clause-ready : goal.invariant_of-graph-clause-ready
invariant_of-graph-clause-ready c = admitted_indexable (check_admitted _ _ (accepts c.in_ok-check.ensures))

pub invariant_of-graph-2 : goal.invariant_of-graph-2
invariant_of-graph-2 c = record { admitted = check_admitted _ _ (accepts c.in_ok-check.ensures) }

pub returns-in_err-sense : goal.returns-in_err-sense
returns-in_err-sense c =
    let a = c.args in
    let n = refusal_ne0 _ in
    let d = answer_later _ _ _ _ _ c.in_ok-check.ensures refl c.in_err-sense.ensures.answers in
    let p = err_from_is_err_and c.from_residual-in_err-sense.result c.from_residual-in_err-sense.ensures.1 in
    record {
      returned = rw (p.1, p.2) (refused_returns _ _ _ a.map.now a.short.now d n);
      mapped = refused_map _ _ _ a.map.now a.short.now d n;
      shortened = refused_short _ _ _ a.map.now a.short.now d n;
    }

pub invariant_of-ringless : goal.invariant_of-ringless
invariant_of-ringless c = record {
  free = (reduce_reducible _ _ _ _ _ (accepts (answer_later _ _ _ _ _ c.in_ok-check.ensures refl c.in_ok-sense.ensures.answers))).free;
}

pub accepted_reduction-requires : goal.accepted_reduction-requires
accepted_reduction-requires c =
    let z = accepts (answer_later _ _ _ _ _ c.in_ok-check.ensures refl c.in_ok-sense.ensures.answers) in
    record {
      map_capacity = reduce_map_capacity _ _ _ _ _ z;
      short_capacity = reduce_short_capacity _ _ _ _ _ z;
    }

pub returns : goal.returns
returns c =
    let a = c.args in
    let d = answer_later _ _ _ _ _ c.in_ok-check.ensures refl c.in_ok-sense.ensures.answers in
    let w = rw c.in_ok-sense.ensures.sense at c.accepted_reduction.ensures in
    record {
      returned = ap made_reduction w.returned ∙ accepted_returns _ _ _ a.map.now a.short.now d refl;
      mapped = accepted_map _ _ _ a.map.now a.short.now d refl w.mapped;
      shortened = accepted_short _ _ _ a.map.now a.short.now d refl w.shortened;
    }
