-- The loop of `shrink_compose::put_composed`: the entries passed are composed, the others are as
-- they were. Assumes nothing.
use Rattle.std.proofs.Common.{◌≡◌, ℕ}
use Rattle.base_bounded.specs.Quantifiers.{tabulate}
use Rattle.graph.specs.Map.{mapped}
use Rattle.base_outputs.specs.Output.{on_front}
use Rattle.shrink_compose.proofs.put_composed.Given as goal

abbrev pub invariant-loop-to : goal.invariant-loop-to
invariant-loop-to l = l.map ≡ on_front (tabulate l.to-index (λ (s : ℕ). mapped l.next (mapped l.initial.map s))) l.initial.map
