-- What reducing along marks returns and leaves in its two outputs: the short graph (quotient) along
-- the set that the marks are. Assumes nothing: these are definitions.
use Rattle.std.specs.Prelude.{ℕ, List, length, get_or}
use Rattle.base_outputs.specs.Output.{on_front}
use Rattle.graph.specs.Hops.{flat}
use Rattle.graph.specs.Map.{mapped}
use Rattle.graph.specs.declared.Shape.{Shape}
use Rattle.base_fixpoint.specs.Pairs.{Pairs}
use Rattle.mark_confluence.specs.Internal.MarkSet.{mark_set}
use Rattle.reduce_short_graph.specs.Short.{short_hops, short_shape, map_list}
use Rattle.reduce_by_marks.specs.declared.ShortGraph.{ShortGraph}

-- the short graph along u besides its hops, and how many these are
abbrev pub short_graph : Shape → List ℕ → Pairs → ShortGraph
short_graph sh hs u = record { shape = short_shape sh hs u; hops = length (short_hops sh hs u) }

-- the outputs afterwards, where ms are the marks: "Acceptance writes the named elements and none
-- past them"
abbrev pub map_after : Shape → List ℕ → List ℕ → List ℕ → List ℕ
map_after sh hs ms map = on_front (map_list sh hs (mark_set hs ms)) map

abbrev pub short_after : Shape → List ℕ → List ℕ → List ℕ → List ℕ
short_after sh hs ms short = on_front (flat (short_hops sh hs (mark_set hs ms))) short

-- the short graph's counts and initial state by the tables of new numbers and of the map
abbrev pub shape_by : Shape → List ℕ → List ℕ → Shape
shape_by sh news map = record { states = get_or news sh.states 0; labels = sh.labels; initial = mapped map sh.initial }
