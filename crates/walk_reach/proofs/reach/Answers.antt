-- The search begins with s visited, a step takes the state at `head`, and what the search leaves is
-- the answer. Assumes nothing.
use native.Mathlib.Omega.{arith}
use Rattle.std.proofs.Common.{◌≡◌, ◌∙◌, ◌++◌, Bool, false, List, ap, drop, refl, sym, rules, replicate, length-take-le}
use Rattle.walk_reach.proofs.Search.{search_tail, search_starts, search_steps, search_ends}
use Rattle.walk_reach.proofs.reach.Goals as goal

pub loop-head-init : goal.loop-head-init
loop-head-init c =
    let n = c.args.graph.shape.states in
    let seen = c.args.seen.now in
    let new = c.visit.ensures in
    let cleared : c.fill.new.self ≡ replicate n false = rw (← length-take-le n seen c.requires.space.seen_capacity) (c.fill.ensures.after (λ y e. e)) in
    record {
      space = record { seen = refl; queue = refl };
      search =
          search_starts n seen c.args.queue.now c.requires.space.seen_capacity c.requires.space.queue_capacity
          _ _ c.args.s.0 c.requires.state (ap (λ (l : List Bool). l ++ drop n seen) cleared) new.seen new.queue new.tail;
    }

pub offset_bounds-reached-head : goal.offset_bounds-reached-head
offset_bounds-reached-head c = omega (arith, search_tail c.loop-head.invariant.search, c.args.graph.admitted.states_most)

pub bounds-reached-head : goal.bounds-reached-head
bounds-reached-head c = omega (arith, search_tail c.loop-head.invariant.search, c.loop-head.invariant.search.front.queue_capacity)

pub overflow_add-head : goal.overflow_add-head
overflow_add-head c = omega (arith, search_tail c.loop-head.invariant.search, c.args.graph.admitted.states_most)

pub loop-head-smaller : goal.loop-head-smaller
loop-head-smaller c = omega (arith, search_tail c.loop-head.invariant.search)

pub loop-head-preserved : goal.loop-head-preserved
loop-head-preserved c = record {
  space = record { seen = c.expand.ensures.space.seen ∙ c.loop-head.invariant.space.seen; queue = c.expand.ensures.space.queue ∙ c.loop-head.invariant.space.queue };
  search = search_steps c.args.graph.admitted.range c.loop-head.invariant.search c.loop-head-test.true c.expand.ensures.visits;
}

pub returns : goal.returns
returns c =
    let n = sym c.loop-head.invariant.space.seen in
    let m = sym c.visit.ensures.space.seen in
    let d = search_ends c.args.graph.admitted.range c.loop-head.invariant.search c.loop-head-test.false c.requires.state in
    rw (← d) (search rules)
