-- v is placed where it is not yet and all its silent hops lead to placed states. Assumes nothing.
use native.Mathlib.Omega.{arith}
use Rattle.std.proofs.Common.{◌≡◌, Bool, true, false, map, rules}
use Rattle.std.proofs.lemmas.List.{map-id}
use Rattle.walk_reach.specs.Internal.Frontier.{visited}
use Rattle.walk_acyclic.specs.Internal.Ranks.{ends_visited}
use Rattle.walk_topological_order.proofs.Ordering.{placed_or_stuck_placed, ordered_states, row_fits, ordered_one}
use Rattle.walk_topological_order.proofs.Progress.place_one.Goals as goal

pub returns-then-self-at-clause-tried : goal.returns-then-self-at-clause-tried
unfolding visited
returns-then-self-at-clause-tried c =
    placed_or_stuck_placed c.args.graph.index.hops.now c.args.self.now c.args.v.0 (rw (← c.from-at.ensures) c.if-self-at.true)

pub overflow_add-self : goal.overflow_add-self
overflow_add-self c = omega (arith, ordered_states c.requires.ordered, c.args.graph.admitted.states_most)

pub put_row-self-requires-clause-fits : goal.put_row-self-requires-clause-fits
unfolding visited
put_row-self-requires-clause-fits c =
    row_fits c.requires.ordered c.args.v.0 c.requires.state (rw (← c.from-at.ensures) c.if-self-at.false)

pub returns-clause-ordered : goal.returns-clause-ordered
unfolding visited
returns-clause-ordered c =
    let off : visited c.args.self.now.placed c.args.v.0 ≡ false = rw (← c.from-at.ensures) c.if-self-at.false in
    let ready : ends_visited c.args.graph.index.hops.now (map (λ (yes : Bool). yes) c.args.self.now.placed) c.args.v.0 ≡ true = search rules in
    rw c.from-at.ensures (ordered_one c.requires.ordered c.args.v.0 c.requires.state off (rw (map-id c.args.self.now.placed) at ready) c.put_row-self.ensures)
