-- The senses of tau-confluence (document 02, wish 7): one condition with the sense as an argument,
-- and the marked set of a sense. What a sense is stands in `lts: Closes`; here are its tests. n is
-- the state count. Assumes nothing: these are definitions.
use Rattle.std.specs.Prelude.{ℕ, Bool, cond, ◌&&◌, ◌||◌, List, eqb}
use Rattle.base_bounded.specs.Quantifiers.{all, any}
use Rattle.graph.specs.Hops.{count, from, label, to, has}
use Rattle.graph.specs.Answers.{accepted, refused}
use Rattle.graph.specs.declared.Answer.{Answer}
use Rattle.graph.specs.declared.Shape.{Shape}
use Rattle.lts.specs.Closes.{Reach, nowhere, single, walks, Sense, r1, r2, r3, r8}
use Rattle.walk_reach.specs.Reach.{leads_by}
use Rattle.base_fixpoint.specs.Pairs.{Pairs}
use Rattle.base_fixpoint.specs.Approximants.{approximant}
use Rattle.mark_confluence.specs.Rounds.{Trials, tried, silent_hops}

-- the hop at place i is silent, and in the set u
unfoldable pub in_set_at : List ℕ → Pairs → ℕ → Bool
in_set_at hs u i = eqb (label hs i) 0 && u (from hs i) (to hs i)

-- s comes to t: not at all (t is s), by at most one hop of u, or "by zero or more hops of U", for
-- which as many as there are states are enough
unfoldable pub reaches_by : List ℕ → ℕ → Pairs → Reach → Pairs
reaches_by hs n u nowhere s t = eqb s t
reaches_by hs n u single s t = eqb s t || u s t
reaches_by hs n u walks s t = leads_by hs (in_set_at hs u) n s t

-- "p has a hop labelled a to q, or a is silent and q = p"
unfoldable pub hop_or_stay : List ℕ → ℕ → ℕ → ℕ → Bool
hop_or_stay hs p a q = has hs p a q || (eqb a 0 && eqb q p)

-- "s4 is q, or q leads to s4; s3 = s4, or s3 leads to s4": q and s3 meet in s4
unfoldable pub joins_at : Sense → List ℕ → ℕ → Pairs → ℕ → ℕ → ℕ → Bool
joins_at sense hs n u q s3 s4 = reaches_by hs n u sense.after q s4 && reaches_by hs n u sense.closing s3 s4

-- p answers by a hop to q, and q and s3 meet
unfoldable pub answers_to : Sense → List ℕ → ℕ → Pairs → ℕ → ℕ → ℕ → ℕ → Bool
answers_to sense hs n u p a s3 q = hop_or_stay hs p a q && any n (joins_at sense hs n u q s3)

-- "p is s2, or s2 leads to p", and p answers
unfoldable pub answers_from : Sense → List ℕ → ℕ → Pairs → ℕ → ℕ → ℕ → ℕ → Bool
answers_from sense hs n u s2 a s3 p = reaches_by hs n u sense.before s2 p && any n (answers_to sense hs n u p a s3)

-- "there are states p, q, s4 such that": a hop labelled a to s3 is answered from s2
unfoldable pub answered_in : Sense → List ℕ → ℕ → Pairs → Trials
answered_in sense hs n u s2 a s3 = any n (answers_from sense hs n u s2 a s3)

-- "for each hop s1, a, s3": each hop from s1 is answered from s2
unfoldable pub closes_in : Sense → Shape → List ℕ → Pairs → Pairs
closes_in sense sh hs u s1 s2 = all (count hs) (tried hs (answered_in sense hs sh.states u) s1 s2)

-- the marked set of the sense: what is left of the silent hops after as many rounds of dropping
-- what does not close as there are hops.
-- In the field: the greatest tau-confluent set of a notion of confluence.
unfoldable pub marked_in : Sense → Shape → List ℕ → Pairs
marked_in sense sh hs = approximant (closes_in sense sh hs) (silent_hops hs) (count hs)

-- "the sense as a number 1, 2, 3 or 8"
unfoldable pub is_sense : ℕ → Bool
is_sense k = eqb k 1 || (eqb k 2 || (eqb k 3 || eqb k 8))

unfoldable pub sense_of : ℕ → Sense
sense_of k = cond (eqb k 1) r1 (cond (eqb k 2) r2 (cond (eqb k 3) r3 r8))

-- the marked set of the sense with this number
abbrev pub marked_by : ℕ → Shape → List ℕ → Pairs
marked_by k = marked_in (sense_of k)

-- row 19: "19 for another sense"
unfoldable pub sense_answer : ℕ → Answer
sense_answer k = cond (is_sense k) accepted (refused 19 0)
