-- The entry `reduce`: what it returns and what it leaves in its two outputs. Here the map and the
-- short graph, which are of any set of silent hops, are those of the marked set (the greatest
-- tau-confluent set) of the sense with the number k. Assumes nothing: these are definitions.
use Rattle.std.specs.Prelude.{ℕ, cond, List, length, eqb, Result, Ok, Err}
use Rattle.base_outputs.specs.Output.{written}
use Rattle.graph.specs.Hops.{flat}
use Rattle.graph.specs.Answers.{accepted, and_then, capacity_answer, refusal_answer}
use Rattle.graph_check.specs.Check.{check_of}
use Rattle.graph.specs.declared.Hop.{Hop}
use Rattle.graph.specs.declared.Shape.{Shape}
use Rattle.graph.specs.declared.Answer.{Answer}
use Rattle.graph.specs.declared.Refusal.{Refusal}
use Rattle.walk_silent.specs.Silent.{ring_answer}
use Rattle.mark_senses.specs.Senses.{marked_by, sense_answer}
use Rattle.reduce_short_graph.specs.Short.{short_hops, short_shape, map_list}
use Rattle.reduce_by_marks.specs.declared.ShortGraph.{ShortGraph}
use Rattle.reduce_entry.specs.declared.Reduction.{Reduction}

abbrev pub reduced_map : Shape → List ℕ → ℕ → List ℕ
reduced_map sh hs k = map_list sh hs (marked_by k sh hs)

-- "The short graph holds, for each hop r, a, t of a representative r, the hop new(r), a, map(t),
-- once, in ascending order."
abbrev pub reduced_hops : Shape → List ℕ → ℕ → List Hop
reduced_hops sh hs k = short_hops sh hs (marked_by k sh hs)

-- "Its initial state is the map of the old one, its label count is the old one."
abbrev pub reduced_shape : Shape → List ℕ → ℕ → Shape
reduced_shape sh hs k = short_shape sh hs (marked_by k sh hs)

-- rows 1 to 4, then "19 for another sense, after 4 and before 5", 5, then 6: "map, one a state;
-- short hops, three a hop of the input", four by wish 2, which is as many as the input has
unfoldable pub reduce_answer : Shape → List ℕ → ℕ → ℕ → ℕ → Answer
reduce_answer sh hs k map-capacity short_capacity =
    and_then (check_of sh hs)
    (and_then (sense_answer k) (and_then (ring_answer sh hs) (and_then (capacity_answer sh.states map-capacity) (capacity_answer (length hs) short_capacity))))

-- "with any number but 0 every other figure in the answer is 0"
abbrev pub no_shape : Shape
no_shape = record { states = 0; labels = 0; initial = 0 }

-- the figures of what `reduce` returns: the short graph, or a refusal
abbrev pub made_reduction : ShortGraph → Reduction
made_reduction made = record { answer = accepted; shape = made.shape; hops = made.hops }

abbrev pub reduction_of : Result ShortGraph Refusal → Reduction
reduction_of (Ok made) = made_reduction made
reduction_of (Err r) = record { answer = refusal_answer r; shape = no_shape; hops = 0 }

abbrev pub reduction : Shape → List ℕ → ℕ → Answer → Reduction
reduction sh hs k a =
    cond (eqb a.number 0) (record { answer = a; shape = reduced_shape sh hs k; hops = length (reduced_hops sh hs k) })
    (record { answer = a; shape = no_shape; hops = 0 })

unfoldable pub reduce_of : Shape → List ℕ → ℕ → ℕ → ℕ → Reduction
reduce_of sh hs k map-capacity short_capacity = reduction sh hs k (reduce_answer sh hs k map-capacity short_capacity)

-- the outputs afterwards: "Acceptance writes the named elements and none past them", and a refusal
-- writes none
unfoldable pub map_output : Shape → List ℕ → ℕ → List ℕ → List ℕ → List ℕ
map_output sh hs k map short = written (reduce_answer sh hs k (length map) (length short)).number (reduced_map sh hs k) map

unfoldable pub short_output : Shape → List ℕ → ℕ → List ℕ → List ℕ → List ℕ
short_output sh hs k map short = written (reduce_answer sh hs k (length map) (length short)).number (flat (reduced_hops sh hs k)) short
