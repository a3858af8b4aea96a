-- What a step of the ranking leaves: that the ranked states are on no ring (silent cycle) is in the
-- type. Assumes nothing: these are definitions.
use Rattle.std.specs.Prelude.{ℕ, ◌+◌, ◌≤◌, ◌≡◌}
use Rattle.base_bounded.specs.Quantifiers.{tally}
use Rattle.walk_reach.specs.Internal.Frontier.{visited}
use Rattle.walk_acyclic.specs.declared.Ranking.{Ranking}

-- how many states are ranked
abbrev pub ranked_states : Ranking → ℕ
ranked_states k = tally k.graph.shape.states (visited k.ranked)

-- at least r states more are ranked, of the same graph
pub record Ranked (old : Ranking) (r : ℕ) (new : Ranking) : Type 0 where
  pub same_graph : new.graph ≡ old.graph
  pub gained : ranked_states old + r ≤ ranked_states new
