-- The marks of a set of silent hops, as `mark` writes them. Assumes nothing: these are definitions.
use Rattle.std.specs.Prelude.{ℕ, cond, ◌&&◌, List, eqb}
use Rattle.base_bounded.specs.Quantifiers.{tabulate}
use Rattle.graph.specs.Hops.{count, from, label, to}
use Rattle.base_fixpoint.specs.Pairs.{Pairs}

-- "Marks are 1 or 0", one a hop: 1 for a silent hop that is in the set u, and 0 for any other
unfoldable pub mark_of : List ℕ → Pairs → ℕ → ℕ
mark_of hs u i = cond (eqb (label hs i) 0 && u (from hs i) (to hs i)) 1 0

unfoldable pub marks_of : List ℕ → Pairs → List ℕ
marks_of hs u = tabulate (count hs) (mark_of hs u)
