-- What only private functions and proofs cite beside `Rounds`. Assumes nothing: these are
-- definitions.
use Rattle.std.specs.Prelude.{ℕ, Bool, List}
use Rattle.graph.specs.Hops.{from, label, to}
use Rattle.base_fixpoint.specs.Pairs.{Pairs}
use Rattle.mark_confluence.specs.Rounds.{answers, closes, closing}

-- the condition of a confluent set, with u for U. The hop at place i is answered from s2:
unfoldable pub answered : List ℕ → Pairs → ℕ → ℕ → Bool
answered hs u s2 i = answers hs (closing u) s2 (label hs i) (to hs i)

-- the same of the hop at place i
abbrev pub closes_at : List ℕ → Pairs → ℕ → Bool
closes_at hs u i = closes hs u (from hs i) (to hs i)
