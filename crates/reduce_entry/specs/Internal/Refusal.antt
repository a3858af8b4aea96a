-- Parts of the refusals of `reduce`: rows 19, 5 and 6, and what it returns with a refusal. Assumes
-- nothing: these are definitions.
use Rattle.std.specs.Prelude.{ℕ, List, length}
use Rattle.graph.specs.Answers.{and_then, capacity_answer}
use Rattle.graph.specs.declared.Shape.{Shape}
use Rattle.graph.specs.declared.Answer.{Answer}
use Rattle.walk_silent.specs.Silent.{ring_answer}
use Rattle.mark_senses.specs.Senses.{sense_answer}
use Rattle.reduce_entry.specs.Reduce.{no_shape}
use Rattle.reduce_entry.specs.declared.Reduction.{Reduction}

-- what is returned with a refusal
abbrev pub refused_reduction : Answer → Reduction
refused_reduction a = record { answer = a; shape = no_shape; hops = 0 }

-- rows 19, 5 and 6 of `reduce_answer`, of an admitted graph
abbrev pub later_answer : Shape → List ℕ → ℕ → ℕ → ℕ → Answer
later_answer sh hs k map-capacity short_capacity =
    and_then (sense_answer k) (and_then (ring_answer sh hs) (and_then (capacity_answer sh.states map-capacity) (capacity_answer (length hs) short_capacity)))
