-- The entry `shrink`: what it returns and what it leaves in its two outputs. "Outputs and refusals
-- are as in reduce." k is the sense's number. Assumes nothing: these are definitions.
use Rattle.std.specs.Prelude.{ℕ, cond, List, length, eqb, Result, Ok, Err}
use Rattle.base_outputs.specs.Output.{written}
use Rattle.graph.specs.Hops.{count}
use Rattle.graph.specs.Answers.{accepted, refusal_answer}
use Rattle.graph.specs.declared.Shape.{Shape}
use Rattle.graph.specs.declared.Answer.{Answer}
use Rattle.graph.specs.declared.Refusal.{Refusal}
use Rattle.reduce_entry.specs.Reduce.{reduce_answer, no_shape}
use Rattle.shrink_iterate.specs.Iterate.{last_stage}
use Rattle.shrink_entry.specs.declared.LastGraph.{LastGraph}
use Rattle.shrink_entry.specs.declared.Shrinking.{Shrinking}

-- what is returned with a refusal: "with any number but 0 every other figure in the answer is 0"
abbrev pub refused_shrinking : Answer → Shrinking
refused_shrinking a = record { answer = a; shape = no_shape; hops = 0; reductions = 0 }

-- the figures of what `shrink` returns: the last graph, or a refusal
abbrev pub shrinking_of : Result LastGraph Refusal → Shrinking
shrinking_of (Ok last) = record { answer = accepted; shape = last.shape; hops = last.hops; reductions = last.reductions }
shrinking_of (Err r) = refused_shrinking (refusal_answer r)

-- "return the last graph, .., and the number of reductions that marked something"
abbrev pub shrinking : Shape → List ℕ → ℕ → Answer → Shrinking
shrinking sh hs k a =
    cond (eqb a.number 0)
    (record { answer = a; shape = (last_stage k sh hs).shape; hops = count (last_stage k sh hs).hops; reductions = (last_stage k sh hs).reductions })
    (refused_shrinking a)

unfoldable pub shrink_of : Shape → List ℕ → ℕ → ℕ → ℕ → Shrinking
shrink_of sh hs k map-capacity short_capacity = shrinking sh hs k (reduce_answer sh hs k map-capacity short_capacity)

-- the outputs afterwards: "one map from first states to last", and the last graph's hops
unfoldable pub shrink_map_output : Shape → List ℕ → ℕ → List ℕ → List ℕ → List ℕ
shrink_map_output sh hs k map short = written (reduce_answer sh hs k (length map) (length short)).number (last_stage k sh hs).map map

unfoldable pub shrink_hops_output : Shape → List ℕ → ℕ → List ℕ → List ℕ → List ℕ
shrink_hops_output sh hs k map short = written (reduce_answer sh hs k (length map) (length short)).number (last_stage k sh hs).hops short
