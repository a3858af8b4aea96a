-- Confluent sets and the rounds of marking (document 01 "Marking"; RR-7000's equations X, Y, Z):
-- strong tau-confluence, and the marked set as its greatest fixpoint. Assumes nothing: these are
-- definitions.
use Rattle.std.specs.Prelude.{ℕ, ◌≡◌, Bool, true, not, ◌&&◌, ◌||◌, ◌⊎◌, List, eqb}
use Rattle.base_bounded.specs.Quantifiers.{all, any}
use Rattle.graph.specs.Hops.{count, from, label, to, labelled, has}
use Rattle.base_fixpoint.specs.Pairs.{Pairs}
use Rattle.base_fixpoint.specs.Approximants.{approximant}

-- a set of trials: s2, a, s3 is the trial of a hop labelled a to s3 against a silent hop to s2
abbrev pub Trials : Type 0
Trials = ℕ → ℕ → ℕ → Bool

-- Z, the closing, over X: "s3 = s4, or the silent hop s3 to s4 is in U"
unfoldable pub closing : Pairs → Pairs
closing x s3 s4 = eqb s3 s4 || x s3 s4

-- "s2 has a hop labelled a to s4": the one at place j, and its end closes s3
unfoldable pub answer : List ℕ → Pairs → ℕ → ℕ → ℕ → ℕ → Bool
answer hs z s2 a s3 j = labelled hs s2 a j && z s3 (to hs j)

-- a hop of s2 answers
unfoldable pub hop_answers : List ℕ → Pairs → Trials
hop_answers hs z s2 a s3 = any (count hs) (answer hs z s2 a s3)

-- Y, a hop labelled a to s3 tried against a silent hop to s2, over Z: "a is silent and s4 = s2", or
-- a hop of s2 answers
unfoldable pub answers : List ℕ → Pairs → Trials
answers hs z s2 a s3 = (eqb a 0 && z s3 s2) || hop_answers hs z s2 a s3

-- the hop at place i, if it leaves s1, passes its trial against a silent hop to s2
unfoldable pub tried : List ℕ → Trials → ℕ → ℕ → ℕ → Bool
tried hs y s1 s2 i = not (eqb (from hs i) s1) || y s2 (label hs i) (to hs i)

-- What a solution is: "the greatest solution of three equations: X for a silent hop, Y for a hop
-- tried against it, Z for the closing. X of a pair that is no silent hop is false." In RR-7000 they
-- are the equations of strong confluence.
-- In the field: a Boolean equation system and its solutions.
pub record Solution (hs : List ℕ) (X : Pairs) (Y : Trials) (Z : Pairs) : Type 0 where
  pub x_is : (s1 s2 : ℕ) → X s1 s2 ≡ (has hs s1 0 s2 && all (count hs) (tried hs Y s1 s2))
  pub y_is : (s2 a s3 : ℕ) → Y s2 a s3 ≡ answers hs Z s2 a s3
  pub z_is : (s3 s4 : ℕ) → Z s3 s4 ≡ closing X s3 s4

-- and each hop from s1 is. With `has` beside it this is X over u: Y and Z are put in.
unfoldable pub closes : List ℕ → Pairs → Pairs
closes hs u s1 s2 = all (count hs) (tried hs (answers hs (closing u)) s1 s2)

-- the pairs that have a silent hop
abbrev pub silent_hops : List ℕ → Pairs
silent_hops hs s t = has hs s 0 t

-- "Every silent hop survives 0 rounds. It survives k + 1 when the condition above holds with 'in U'
-- read as 'survives k'." So these are the rounds of `closes` on the silent hops.
-- In the field: the approximants of a greatest fixpoint.
unfoldable pub survives : List ℕ → ℕ → Pairs
survives hs = approximant (closes hs) (silent_hops hs)

-- the marked set: what survives as many rounds as there are hops (and so every number of rounds).
-- In the field: the greatest tau-confluent set.
unfoldable pub marked : List ℕ → Pairs
marked hs = survives hs (count hs)

-- the first point of the condition: "s2 has a hop labelled a to s4, or a is silent and s4 = s2"
abbrev pub FirstPoint : List ℕ → ℕ → ℕ → ℕ → Type 0
FirstPoint hs s2 a s4 = (has hs s2 a s4 ≡ true) ⊎ ((a ≡ 0) × (s4 ≡ s2))

-- "A set U of silent hops is confluent when for each hop s1 to s2 in U and each hop s1, a, s3 there
-- is an s4 such that .." U may be any set of pairs, decidable or not.
-- In the field: a strongly tau-confluent set.
pub record ConfluentSet (hs : List ℕ) (U : ℕ → ℕ → Type 0) : Type 0 where
  pub silent : (s1 s2 : ℕ) → U s1 s2 → has hs s1 0 s2 ≡ true
  pub closed :
      (s1 s2 : ℕ) → U s1 s2 → (a s3 : ℕ) → has hs s1 a s3 ≡ true →
      (s4 : ℕ) × FirstPoint hs s2 a s4 × ((s3 ≡ s4) ⊎ U s3 s4)
