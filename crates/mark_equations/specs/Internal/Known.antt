-- What the memo table that is passed down the cycle of X, Y and Z may hold. Assumes nothing: these
-- are definitions.
use Rattle.std.specs.Prelude.{ℕ, ◌+◌, ◌*◌, ◌/◌, ◌%◌, ◌<◌, ◌≤◌, Bool, true, false, cond, List, ◌≡◌, eqb, length, get_or}
use Rattle.graph.specs.Hops.{count, from, label, to}
use Rattle.graph.specs.Answers.{most_labels, most_hops}
use Rattle.mark_confluence.specs.Rounds.{survives}
use Rattle.mark_equations.specs.declared.Known.{Known}
use Rattle.mark_equations.specs.declared.Known.TheVariants.{Unknown, Falls, Survives}

-- where the answer for k rounds and the hop at place i stands: one after the other for the hops,
-- then for the next number of rounds
abbrev pub answer_place : ℕ → ℕ → ℕ
answer_place k i = k * most_hops + i

-- the answer that place j is for
unfoldable pub value : List ℕ → ℕ → Bool
value hs j = survives hs (j / most_hops) (from hs (j % most_hops)) (to hs (j % most_hops))

-- the case that stands for an answer; the other says nothing
abbrev pub word_for : Bool → Known
word_for false = Falls
word_for true = Survives

-- the number that stands for it in a table of bytes; any other says nothing
abbrev pub byte_for : Bool → ℕ
byte_for false = 1
byte_for true = 2

-- what a number says, as a case of the code, and the number of a case
abbrev pub known_of : ℕ → Known
known_of n = cond (eqb n 1) Falls (cond (eqb n 2) Survives Unknown)

abbrev pub byte_of : Known → ℕ
byte_of Unknown = 0
byte_of Falls = 1
byte_of Survives = 2

-- each answer in the table is right. An entry is a case or a byte: `nothing` says nothing, and
-- `entry_for` stands for an answer
unfoldable pub Right : {E : Type 0} → E → (Bool → E) → List ℕ → List E → Type 0
Right nothing entry_for hs m = (j : ℕ) (v : Bool) → get_or m j nothing ≡ entry_for v → value hs j ≡ v

-- what each of X, Y and Z asks besides an index: labels in their range, and a table long enough for
-- k rounds, in which each answer is right
pub record Prepared {E : Type 0} (nothing : E) (entry_for : Bool → E) (hs : List ℕ) (m : List E) (k : ℕ) : Type 0 where
  pub label_in : (i : ℕ) → i < count hs → label hs i < most_labels
  pub capacity : answer_place k most_hops ≤ length m
  pub right : Right nothing entry_for hs m
