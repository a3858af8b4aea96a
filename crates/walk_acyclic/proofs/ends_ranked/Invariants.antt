-- The silent hops passed so far lead to ranked states. Assumes nothing.
use Rattle.std.proofs.Common.{ℕ, ◌≡◌, ◌<◌, ◌≤◌, true, map}
use Rattle.graph.specs.Hops.{to}
use Rattle.graph.specs.Search.{first_of}
use Rattle.walk_reach.specs.Internal.Frontier.{visited}
use Rattle.walk_acyclic.proofs.ends_ranked.Given as goal

abbrev pub invariant-loop-i : goal.invariant-loop-i
invariant-loop-i g l = (j : ℕ) → first_of l.graph.index.hops.now l.fn.v.0 ≤ j → j < l.i → visited (map g.F.Flag.raised l.ranked) (to l.graph.index.hops.now j) ≡ true
