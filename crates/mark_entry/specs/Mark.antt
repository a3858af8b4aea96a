-- The entry `mark`: its answer and its output. Assumes nothing: these are definitions.
use Rattle.std.specs.Prelude.{ℕ, List, length}
use Rattle.base_outputs.specs.Output.{written}
use Rattle.graph.specs.Hops.{count}
use Rattle.graph.specs.Answers.{and_then, capacity_answer}
use Rattle.graph_check.specs.Check.{check_of}
use Rattle.graph.specs.declared.Shape.{Shape}
use Rattle.graph.specs.declared.Answer.{Answer}
use Rattle.walk_silent.specs.Silent.{ring_answer}
use Rattle.mark_confluence.specs.Marks.{marks_of}
use Rattle.mark_senses.specs.Senses.{marked_by, sense_answer}

-- the marks of the marked set, in the sense with the number k
abbrev pub marks_made : Shape → List ℕ → ℕ → List ℕ
marks_made sh hs k = marks_of hs (marked_by k sh hs)

-- rows 1 to 4, then 19 ("after 4 and before 5"), then 5, then 6: "marks, one a hop"
unfoldable pub mark_answer : Shape → List ℕ → ℕ → List ℕ → Answer
mark_answer sh hs k out = and_then (check_of sh hs) (and_then (sense_answer k) (and_then (ring_answer sh hs) (capacity_answer (count hs) (length out))))

-- "A refusal leaves all lent elements untouched"; "Acceptance writes the named elements and none
-- past them"
unfoldable pub mark_output : Shape → List ℕ → ℕ → List ℕ → List ℕ
mark_output sh hs k out = written (mark_answer sh hs k out).number (marks_made sh hs k) out
