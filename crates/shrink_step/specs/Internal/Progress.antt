-- The stage that the code holds. Assumes nothing: this is a definition.
use Rattle.std.specs.Prelude.{ℕ, List}
use Rattle.graph.specs.Hops.{between}
use Rattle.shrink_iterate.specs.Iterate.{Stage}
use Rattle.shrink_step.specs.declared.Progress.{Progress}

-- the stage with these figures, with the hops at the front of a list, and with the map
abbrev pub stage_of : Progress → List ℕ → List ℕ → Stage
stage_of r hops map = record { shape = r.shape; hops = between hops 0 r.hops; map = map; reductions = r.reductions }
