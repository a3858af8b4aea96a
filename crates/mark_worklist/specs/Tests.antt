-- The second marking of document 02 (wish 10), by a worklist: which hops a round tests, after the
-- first only those of which a hop that fell in the round before may have closed a diamond, and how
-- many tests there are. Assumes nothing: these are definitions.
use Rattle.std.specs.Prelude.{ℕ, zero, suc, Bool, not, ◌&&◌, List, eqb}
use Rattle.base_bounded.specs.Quantifiers.{any, tally, total}
use Rattle.graph.specs.Hops.{count, from, label, to}
use Rattle.base_fixpoint.specs.Pairs.{Pairs}
use Rattle.mark_confluence.specs.Rounds.{answers, survives}

-- "fallen in the round": the silent hop s to t falls in round k + 1 when it survives k rounds and
-- no more
unfoldable pub fell : List ℕ → ℕ → Pairs
fell hs k s t = survives hs k s t && not (survives hs (suc k) s t)

-- "still marked" after k rounds: the hop at place i is silent and survives them
unfoldable pub still_marked : List ℕ → ℕ → ℕ → Bool
still_marked hs k i = eqb (label hs i) 0 && survives hs k (from hs i) (to hs i)

-- the hop at place j is one "to try", s1, a, s3, and has "an s4, by document 01's first point, with
-- s3 to s4" in v: Y, over v in the place of Z
unfoldable pub affected_at : List ℕ → Pairs → ℕ → ℕ → ℕ → Bool
affected_at hs v s1 s2 j = eqb (from hs j) s1 && answers hs v s2 (label hs j) (to hs j)

-- the silent hop s1 to s2 has such a hop to try
unfoldable pub affected : List ℕ → Pairs → Pairs
affected hs v s1 s2 = any (count hs) (affected_at hs v s1 s2)

-- the hop at place i is tested in round k + 1: "the first tests every silent hop, each later one
-- only those still marked that have a hop to try and an s4, by document 01's first point, with s3
-- to s4 fallen in the round before"
-- In the field: what is on the worklist of a round.
unfoldable pub tested_in : List ℕ → ℕ → ℕ → Bool
tested_in hs zero i = eqb (label hs i) 0
tested_in hs (suc k) i = still_marked hs (suc k) i && affected hs (fell hs k) (from hs i) (to hs i)

-- the tests of round k + 1, and those of the first n rounds
unfoldable pub tests_in : List ℕ → ℕ → ℕ
tests_in hs k = tally (count hs) (tested_in hs k)

unfoldable pub tests_up_to : List ℕ → ℕ → ℕ
tests_up_to hs n = total n (tests_in hs)

-- "the number of tests": those of as many rounds as there are hops; no later round has any
-- (`tests_all`)
unfoldable pub tests_of : List ℕ → ℕ
tests_of hs = tests_up_to hs (count hs)
