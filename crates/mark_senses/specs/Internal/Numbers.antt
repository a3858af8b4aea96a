-- "The sense as a number 1, 2, 3 or 8": the number of each sense of the code, its condition, and
-- what a number gives. Assumes nothing: these are definitions.
use Rattle.std.specs.Prelude.{ℕ, ◌≡◌, Result, IfOk}
use Rattle.graph.specs.Answers.{answer_of}
use Rattle.graph.specs.declared.Refusal.{Refusal}
use Rattle.lts.specs.Closes as Closes
use Rattle.mark_senses.specs.Senses.{sense_of, sense_answer}
use Rattle.mark_senses.specs.declared.Sense.{Sense}
use Rattle.mark_senses.specs.declared.Sense.TheVariants.{R1, R2, R3, R8}

abbrev pub sense_number : Sense → ℕ
sense_number R1 = 1
sense_number R2 = 2
sense_number R3 = 3
sense_number R8 = 8

-- how far the sense lets hops lead: before and after the answering hop, and from s3 to s4
abbrev pub condition_of : Sense → Closes.Sense
condition_of sense = sense_of (sense_number sense)

-- the number gives the sense with it, or row 19
pub record GivesSense (number : ℕ) (r : Result Sense Refusal) : Type 0 where
  pub answers : answer_of r ≡ sense_answer number
  pub sense : IfOk r (λ s. sense_number s ≡ number)
