-- Rounds of an operator on a set of pairs. Assumes nothing: these are definitions.
use Rattle.std.specs.Prelude.{ℕ, zero, suc, ◌&&◌}
use Rattle.base_fixpoint.specs.Pairs.{Pairs}

-- an operator F: F u s t says whether the pair s, t meets a condition that speaks of the set u
abbrev pub Operator : Type 0
Operator = Pairs → Pairs

-- what k rounds leave of the set b. "Every silent hop survives 0 rounds. It survives k + 1 when the
-- condition above holds with 'in U' read as 'survives k'", for any condition and for any set to
-- begin with
unfoldable pub approximant : Operator → Pairs → ℕ → Pairs
approximant F b zero s t = b s t
approximant F b (suc k) s t = b s t && F (approximant F b k) s t
