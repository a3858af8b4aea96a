-- The round question of document 01: "The entry is given a hop's place in the list and k from 0 to
-- 4, and answers 1 or 0". Assumes nothing: these are definitions.
use Rattle.std.specs.Prelude.{ℕ, Bool, cond, ◌&&◌, List, eqb, leb, ltb, Result, Ok, Err}
use Rattle.graph.specs.Hops.{count, from, label, to}
use Rattle.graph.specs.Answers.{accepted, refused, and_then, refusal_answer}
use Rattle.graph.specs.declared.Refusal.{Refusal}
use Rattle.graph_check.specs.Check.{check_of}
use Rattle.graph.specs.declared.Shape.{Shape}
use Rattle.graph.specs.declared.Answer.{Answer}
use Rattle.mark_confluence.specs.Rounds.{survives}
use Rattle.mark_entry_round.specs.declared.RoundAnswer.{RoundAnswer}

-- "k from 0 to 4"
abbrev pub most_rounds : ℕ
most_rounds = 4

-- row 9: "asked place not below the hop count, or its hop not silent"
unfoldable pub silent_place : List ℕ → ℕ → Answer
silent_place hs i = cond (ltb i (count hs) && eqb (label hs i) 0) accepted (refused 9 0)

-- row 10: "more than 4 rounds"
unfoldable pub few_rounds : ℕ → Answer
few_rounds k = cond (leb k most_rounds) accepted (refused 10 0)

-- rows 1 to 4, then 9, then 10; rings don't matter to it
unfoldable pub question_answer : Shape → List ℕ → ℕ → ℕ → Answer
question_answer sh hs i k = and_then (check_of sh hs) (and_then (silent_place hs i) (few_rounds k))

-- the figures of what `round_question` returns
abbrev pub round_answer_of : Result Bool Refusal → RoundAnswer
round_answer_of (Ok v) = record { answer = accepted; survives = cond v 1 0 }
round_answer_of (Err r) = record { answer = refusal_answer r; survives = 0 }

-- 1 where the hop survives k rounds; "with any number but 0 every other figure in the answer is 0"
unfoldable pub question_of : Shape → List ℕ → ℕ → ℕ → RoundAnswer
question_of sh hs i k = record {
  answer = question_answer sh hs i k;
  survives = cond (eqb (question_answer sh hs i k).number 0 && survives hs k (from hs i) (to hs i)) 1 0;
}
