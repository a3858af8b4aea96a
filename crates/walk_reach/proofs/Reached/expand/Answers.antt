-- A step visits the end of a chosen hop or passes over one that is not. Assumes nothing.
use native.Mathlib.Omega.{arith}
use Rattle.std.proofs.Common.{◌∙◌, ◌+◌, ◌<◌, ◌≤◌}
use Rattle.graph.specs.Search.{first_of}
use Rattle.walk_reach.specs.Internal.Reach.{chosen_in}
use Rattle.walk_reach.proofs.Frontier.{front_capacity}
use Rattle.walk_reach.proofs.Expanding.{end_within, passed_more, passed_over, passed_all}
use Rattle.walk_reach.proofs.Reached.expand.Goals as goal
use Rattle.walk_reach.proofs.Reached.expand.Goals.{then-is_chosen, else-is_chosen}

pub visit-requires-clause-capacity : goal.visit-requires-clause-capacity
visit-requires-clause-capacity c e =
    let before : c.loop-i.i < first_of c.args.graph.index.hops.now (c.args.v.0 + 1) = omega arith in
    let f = c.loop-i.invariant.passed.grown.front in
    omega (arith, f.queue_capacity, (front_capacity f _ (rw c.to_at.ensures (end_within c.args.graph.admitted c.args.v.0 before)) e).0)

pub loop-i-preserved : goal.loop-i-preserved
unfolding chosen_in
loop-i-preserved c =
    let a = c.args.graph.admitted in
    let chosen = chosen_in c.args.chosen.now in
    let p = c.loop-i.invariant.passed in
    let s = c.loop-i.invariant.space in
    let from : first_of c.args.graph.index.hops.now c.args.v.0 ≤ c.loop-i.i = omega arith in
    let before : c.loop-i.i < first_of c.args.graph.index.hops.now (c.args.v.0 + 1) = omega arith in
    elim c.if-is_chosen.branch [
      | then-is_chosen w ↦
          rw w.self-is (record {
            space = record { seen = w.visit.ensures.space.seen ∙ s.seen; queue = w.visit.ensures.space.queue ∙ s.queue };
            passed = passed_more a _ chosen p from before w.if-is_chosen.true w.to_at.ensures w.visit.ensures.seen w.visit.ensures.queue w.visit.ensures.tail;
          })
      | else-is_chosen w ↦ rw w.self-is (record { space = s; passed = passed_over a _ chosen p w.if-is_chosen.false })
    ]

pub returns : goal.returns
returns c = record { space = c.loop-i.invariant.space; visits = passed_all c.args.graph.admitted _ _ c.loop-i.invariant.passed (omega arith) }
