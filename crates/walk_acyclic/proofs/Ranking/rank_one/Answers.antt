-- v is ranked only where all its silent hops lead to ranked states. Assumes nothing.
use native.Mathlib.Omega.{arith}
use Rattle.std.proofs.Common.{◌≡◌, ◌≤◌, Bool, length, map, refl, rules, true, false}
use Rattle.std.proofs.lemmas.List.{map-id}
use Rattle.walk_reach.specs.Internal.Frontier.{visited}
use Rattle.walk_acyclic.specs.Internal.Ranks.{ends_visited}
use Rattle.walk_acyclic.proofs.Ranks.{off_rings_one, tally_one}
use Rattle.walk_acyclic.proofs.Ranking.rank_one.Goals as goal

pub invariant_of-self : goal.invariant_of-self
invariant_of-self c =
    let k = c.args.self.now in
    let ends : ends_visited k.graph.index.hops.now (map (λ (yes : Bool). yes) k.ranked) c.args.v.0 ≡ true = search rules in
    record { unringed = rw c.from-at.ensures (off_rings_one k.graph.admitted.range k.ranked c.args.v.0 k.unringed (rw (map-id k.ranked) at ends)) }

pub returns : goal.returns
unfolding visited
returns c =
    let k = c.args.self.now in
    let unranked : visited k.ranked c.args.v.0 ≡ false = rw (← c.from-at.ensures) c.if-self-at.false in
    let capacity : k.graph.shape.states ≤ length k.ranked = omega (arith, k.graph.admitted.states_most) in
    record {
      same_graph = refl;
      gained = rw c.from-at.ensures (tally_one k.ranked c.args.v.0 k.graph.shape.states c.requires capacity unranked);
    }
