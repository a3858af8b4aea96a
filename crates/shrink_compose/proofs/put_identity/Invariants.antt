-- The loop of `shrink_compose::put_identity`: after s steps the first s numbers stand at the front.
-- Assumes nothing.
use Rattle.std.proofs.Common.{◌≡◌, ℕ}
use Rattle.base_bounded.specs.Quantifiers.{tabulate}
use Rattle.base_outputs.specs.Output.{on_front}
use Rattle.shrink_compose.proofs.put_identity.Given as goal

abbrev pub invariant-loop-s : goal.invariant-loop-s
invariant-loop-s l = l.map ≡ on_front (tabulate l.s (λ (s : ℕ). s)) l.initial.map
