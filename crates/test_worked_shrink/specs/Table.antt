-- Graphs worked by hand for the repeated reduction, as one table, and what the definitions yield
-- for the same graphs. Assumes nothing: these are definitions.
use Rattle.std.specs.Prelude.{ℕ, suc, List, [], ◌∷◌, ◌++◌, map, length}
use Rattle.base_bounded.specs.Quantifiers.{tabulate}
use Rattle.graph.specs.Hops.{lined_hop, hop_of, flat}
use Rattle.graph.specs.Answers.{accepted, refused}
use Rattle.graph.specs.declared.Hop.{Hop}
use Rattle.graph.specs.declared.Shape.{Shape}
use Rattle.graph.specs.declared.Answer.{Answer}
use Rattle.mark_confluence.specs.Marks.{marks_of}
use Rattle.shrink_iterate.specs.Iterate.{Stage, first_stage, next_stage, stage_marked}
use Rattle.shrink_entry.specs.Shrink.{shrink_of, shrink_map_output, shrink_hops_output}
use Rattle.shrink_entry.specs.declared.Shrinking.{Shrinking}

-- a hop as document 01 writes it; a state count and a label count, with initial state 0
abbrev pub hop : ℕ → ℕ → ℕ → Hop
hop s a t = hop_of s a t

-- the same with a line
abbrev pub lined : ℕ → ℕ → ℕ → ℕ → Hop
lined s a t l = lined_hop s a t l

abbrev pub shape : ℕ → ℕ → Shape
shape n l = record { states = n; labels = l; initial = 0 }

-- what is said of one reduction: the marks, one a hop, and the stage after it
pub record Step : Type 0 where
  pub marks : List ℕ
  pub stage : Stage

-- what is said of a repeated reduction: the graph, the number of the sense, what the two outputs
-- hold before, the reductions that mark something, what `shrink` returns, and what the outputs hold
-- afterwards
pub record Shrunk : Type 0 where
  pub graph : Shape
  pub hops : List Hop
  pub sense : ℕ
  pub map : List ℕ
  pub short : List ℕ
  pub steps : List Step
  pub returned : Shrinking
  pub map_after : List ℕ
  pub short_after : List ℕ

-- what is said of a refusal: the graph, the number of the sense, how long the two outputs are, and
-- what `shrink` answers; the outputs stay as they are
pub record Refused : Type 0 where
  pub graph : Shape
  pub hops : List Hop
  pub sense : ℕ
  pub entries : ℕ
  pub numbers : ℕ
  pub answer : Answer

pub record ShrinkTable : Type 0 where
  pub shrunk : List Shrunk
  pub refused : List Refused

-- the definitions' own account: the reductions one after the other, as many as are said
unfoldable pub steps_of : ℕ → Stage → List Step → List Step
steps_of k g [] = []
steps_of k g (_ ∷ ts) = record { marks = marks_of g.hops (stage_marked k g); stage = next_stage k g } ∷ steps_of k (next_stage k g) ts

abbrev pub shrunk_of : Shrunk → Shrunk
shrunk_of m = record {
  graph = m.graph;
  hops = m.hops;
  sense = m.sense;
  map = m.map;
  short = m.short;
  steps = steps_of m.sense (first_stage m.graph (flat m.hops)) m.steps;
  returned = shrink_of m.graph (flat m.hops) m.sense (length m.map) (length m.short);
  map_after = shrink_map_output m.graph (flat m.hops) m.sense m.map m.short;
  short_after = shrink_hops_output m.graph (flat m.hops) m.sense m.map m.short;
}

abbrev pub refused_of : Refused → Refused
refused_of q = record {
  graph = q.graph;
  hops = q.hops;
  sense = q.sense;
  entries = q.entries;
  numbers = q.numbers;
  answer = (shrink_of q.graph (flat q.hops) q.sense q.entries q.numbers).answer;
}

abbrev pub table_of : ShrinkTable → ShrinkTable
table_of t = record { shrunk = map shrunk_of t.shrunk; refused = map refused_of t.refused }

-- W13.6 with three states: a silent chain in which state i has a hop labelled 1 to itself for odd i
-- and to 0 for even i, and one labelled 2 the other way round
abbrev chain : List Hop
chain = lined 0 0 1 1 ∷ lined 0 1 0 2 ∷ hop 0 2 0 ∷ hop 1 0 2 ∷ lined 1 1 1 9 ∷ lined 1 2 0 8 ∷ lined 2 1 0 7 ∷ hop 2 2 2 ∷ []

-- P1 and P2 of document 01
abbrev p1 : List Hop
p1 = hop 0 0 1 ∷ hop 0 1 2 ∷ hop 1 1 3 ∷ hop 2 0 3 ∷ []

abbrev p2 : List Hop
p2 = hop 0 0 1 ∷ hop 0 1 2 ∷ hop 1 1 3 ∷ []

-- the second reduction of this one is R2's own: R1 marks nothing of what the first leaves
abbrev twice : List Hop
twice = lined 0 1 1 4 ∷ hop 1 0 2 ∷ lined 1 1 0 3 ∷ lined 2 0 0 5 ∷ []

-- so many nines, which are no number of these graphs: what an output held before, and holds past
-- what is written
abbrev nines : ℕ → List ℕ
nines n = tabulate n (λ (_ : ℕ). 9)

-- a reduction: the marks, and of the stage after it the states and labels, with initial state 0,
-- the hops, the map and how many reductions led to it
abbrev step : List ℕ → ℕ → ℕ → List Hop → List ℕ → ℕ → Step
step ms n l hs m r = record { marks = ms; stage = record { shape = shape n l; hops = flat hs; map = m; reductions = r } }

-- what `shrink` leaves of a graph under a sense, in outputs that have one place more than they
-- must: the reductions on the way; how many states, the hops and the map of the last graph; how
-- many reductions; and how many numbers of the hops' output stay
abbrev leaves : Shape → List Hop → ℕ → List Step → ℕ → List Hop → List ℕ → ℕ → ℕ → Shrunk
leaves sh hs k steps n s m r stay = record {
  graph = sh;
  hops = hs;
  sense = k;
  map = nines (suc sh.states);
  short = nines (suc (length (flat hs)));
  steps = steps;
  returned = record { answer = accepted; shape = shape n sh.labels; hops = length s; reductions = r };
  map_after = m ++ nines 1;
  short_after = flat s ++ nines stay;
}

abbrev refuses : Shape → List Hop → ℕ → ℕ → ℕ → Answer → Refused
refuses sh hs k m n a = record { graph = sh; hops = hs; sense = k; entries = m; numbers = n; answer = a }

-- what the reductions of the chain leave: states 0 and 1 become one first, and then that one and 2;
-- under R8 all three at once
abbrev shorter : List Hop
shorter = hop 0 0 1 ∷ lined 0 1 0 9 ∷ lined 0 2 0 8 ∷ lined 1 1 0 7 ∷ hop 1 2 1 ∷ []

abbrev shortest : List Hop
shortest = lined 0 1 0 7 ∷ hop 0 2 0 ∷ []

abbrev one_by_one : List Step
one_by_one =
    step (1 ∷ 0 ∷ 0 ∷ 0 ∷ 0 ∷ 0 ∷ 0 ∷ 0 ∷ []) 2 3 shorter (0 ∷ 0 ∷ 1 ∷ []) 1 ∷ step (1 ∷ 0 ∷ 0 ∷ 0 ∷ 0 ∷ []) 1 3 shortest (0 ∷ 0 ∷ 0 ∷ []) 2 ∷ []

abbrev at_once : List Step
at_once = step (1 ∷ 0 ∷ 0 ∷ 1 ∷ 0 ∷ 0 ∷ 0 ∷ 0 ∷ []) 1 3 shortest (0 ∷ 0 ∷ 0 ∷ []) 1 ∷ []

-- W13.6: the chain "takes n - 1 reductions (R8: one)": by R1, R2 and R3 one fewer than the first
-- states, so that no smaller bound holds
abbrev pub chain_r1 : Shrunk
chain_r1 = leaves (shape 3 3) chain 1 one_by_one 1 shortest (0 ∷ 0 ∷ 0 ∷ []) 2 25

abbrev pub chain_r2 : Shrunk
chain_r2 = leaves (shape 3 3) chain 2 one_by_one 1 shortest (0 ∷ 0 ∷ 0 ∷ []) 2 25

abbrev pub chain_r3 : Shrunk
chain_r3 = leaves (shape 3 3) chain 3 one_by_one 1 shortest (0 ∷ 0 ∷ 0 ∷ []) 2 25

abbrev pub chain_r8 : Shrunk
chain_r8 = leaves (shape 3 3) chain 8 at_once 1 shortest (0 ∷ 0 ∷ 0 ∷ []) 1 25

-- ours: P1, of which one reduction leaves nothing marked
abbrev pub p1_r1 : Shrunk
p1_r1 = leaves (shape 4 2) p1 1 (step (1 ∷ 0 ∷ 0 ∷ 1 ∷ []) 2 2 (hop 0 1 1 ∷ []) (0 ∷ 0 ∷ 1 ∷ 1 ∷ []) 1 ∷ []) 2 (hop 0 1 1 ∷ []) (0 ∷ 0 ∷ 1 ∷ 1 ∷ []) 1 13

-- W13.1: "If nothing is marked at first: 0, the graph itself, .. and the identity": P2
abbrev pub p2_r1 : Shrunk
p2_r1 = leaves (shape 4 2) p2 1 [] 4 p2 (0 ∷ 1 ∷ 2 ∷ 3 ∷ []) 0 1

-- ours: each reduction is in the sense asked, the second too
abbrev pub twice_r2 : Shrunk
twice_r2 =
    leaves (shape 3 2) twice 2
    (step (0 ∷ 0 ∷ 0 ∷ 1 ∷ []) 2 2 (lined 0 1 1 4 ∷ hop 1 0 0 ∷ lined 1 1 0 3 ∷ []) (0 ∷ 1 ∷ 0 ∷ []) 1 ∷ step (0 ∷ 1 ∷ 0 ∷ []) 1 2 (lined 0 1 0 4 ∷ []) (0 ∷ 0 ∷ 0 ∷ []) 2 ∷ [])
    1 (lined 0 1 0 4 ∷ []) (0 ∷ 0 ∷ 0 ∷ []) 2 13

abbrev pub table : ShrinkTable
table = record {
  shrunk = chain_r1 ∷ chain_r2 ∷ chain_r3 ∷ chain_r8 ∷ p1_r1 ∷ p2_r1 ∷ twice_r2 ∷ [];
  refused =
      -- ours: "Outputs and refusals are as in reduce": 19 before 5, 5 before 6, and the capacities
      -- asked are those for the input
      refuses (shape 2 1) (hop 0 0 1 ∷ hop 1 0 0 ∷ []) 4 2 8 (refused 19 0) ∷
      refuses (shape 2 1) (hop 0 0 1 ∷ hop 1 0 0 ∷ []) 1 0 0 (refused 5 0) ∷
      refuses (shape 3 3) chain 1 2 32 (refused 6 0) ∷
      refuses (shape 3 3) chain 1 3 31 (refused 6 0) ∷
      [];
}
