-- Graphs worked by hand for the senses: the case of wish 7, and ours that separate the senses, as
-- one table, and what the definitions yield for the same graphs. Assumes nothing: these are
-- definitions.
use Rattle.std.specs.Prelude.{ℕ, List, [], ◌∷◌, map, length}
use Rattle.graph.specs.Hops.{hop_of, flat}
use Rattle.graph.specs.Answers.{accepted}
use Rattle.graph.specs.declared.Hop.{Hop}
use Rattle.graph.specs.declared.Shape.{Shape}
use Rattle.mark_confluence.specs.Marks.{marks_of}
use Rattle.mark_senses.specs.Senses.{marked_by}
use Rattle.reduce_entry.specs.Reduce.{reduce_of, reduced_map, reduced_hops}
use Rattle.reduce_entry.specs.declared.Reduction.{Reduction}

-- a hop as document 01 writes it; a state count and a label count, with initial state 0
abbrev pub hop : ℕ → ℕ → ℕ → Hop
hop s a t = hop_of s a t

abbrev pub shape : ℕ → ℕ → Shape
shape n l = record { states = n; labels = l; initial = 0 }

-- what is said of a graph: its marks under senses 1, 2, 3 and 8, and whether or not it has a ring
pub record Marked : Type 0 where
  pub graph : Shape
  pub hops : List Hop
  pub in1 : List ℕ
  pub in2 : List ℕ
  pub in3 : List ℕ
  pub in8 : List ℕ

-- what is said of a reduction: the graph, the number of the sense, what `reduce` returns for
-- outputs that are long enough, the map and the short hops
pub record Reduced : Type 0 where
  pub graph : Shape
  pub hops : List Hop
  pub sense : ℕ
  pub returned : Reduction
  pub map : List ℕ
  pub short : List Hop

pub record SensesTable : Type 0 where
  pub marks : List Marked
  pub reductions : List Reduced

-- the definitions' own account
abbrev marks_in : ℕ → Shape → List Hop → List ℕ
marks_in k sh hs = marks_of (flat hs) (marked_by k sh (flat hs))

abbrev pub marked_of : Marked → Marked
marked_of m = record {
  graph = m.graph;
  hops = m.hops;
  in1 = marks_in 1 m.graph m.hops;
  in2 = marks_in 2 m.graph m.hops;
  in3 = marks_in 3 m.graph m.hops;
  in8 = marks_in 8 m.graph m.hops;
}

abbrev pub reduced_of : Reduced → Reduced
reduced_of m = record {
  graph = m.graph;
  hops = m.hops;
  sense = m.sense;
  returned = reduce_of m.graph (flat m.hops) m.sense m.graph.states (length (flat m.hops));
  map = reduced_map m.graph (flat m.hops) m.sense;
  short = reduced_hops m.graph (flat m.hops) m.sense;
}

abbrev pub table_of : SensesTable → SensesTable
table_of t = record { marks = map marked_of t.marks; reductions = map reduced_of t.reductions }

-- wish 7's case, and the two that separate R2 from R3
abbrev case : List Hop
case = hop 0 0 1 ∷ hop 0 1 2 ∷ hop 1 1 3 ∷ hop 2 0 4 ∷ hop 4 0 3 ∷ []

abbrev after : List Hop
after = hop 0 1 1 ∷ hop 1 0 0 ∷ hop 1 1 0 ∷ []

abbrev before : List Hop
before = hop 0 0 1 ∷ hop 0 1 0 ∷ hop 1 0 2 ∷ hop 2 1 1 ∷ []

-- one that has a ring beside the hop 0 to 1
abbrev ring : List Hop
ring = hop 0 0 1 ∷ hop 0 1 0 ∷ hop 1 0 1 ∷ []

-- what is left of a graph with two labels: the states, the hop count, the map and the short hops
abbrev leaves : Shape → List Hop → ℕ → ℕ → ℕ → List ℕ → List Hop → Reduced
leaves sh hs k n m t s = record {
  graph = sh;
  hops = hs;
  sense = k;
  returned = record { answer = accepted; shape = shape n 2; hops = m };
  map = t;
  short = s;
}

abbrev pub table : SensesTable
table = record {
  marks =
      -- "(0,0,1) (0,1,2) (1,1,3) (2,0,4) (4,0,3) has 0 to 1 marked by R8 alone; the other silent
      -- hops are marked by all four"
      record {
        graph = shape 5 2;
        hops = case;
        in1 = 0 ∷ 0 ∷ 0 ∷ 1 ∷ 1 ∷ [];
        in2 = 0 ∷ 0 ∷ 0 ∷ 1 ∷ 1 ∷ [];
        in3 = 0 ∷ 0 ∷ 0 ∷ 1 ∷ 1 ∷ [];
        in8 = 1 ∷ 0 ∷ 0 ∷ 1 ∷ 1 ∷ [];
      } ∷
      -- ours: "R8 (both, and s3 reaches s4 by zero or more too)": 1 to 0 is marked by R8 alone,
      -- since R2 and R3 close by at most one hop
      record {
        graph = shape 3 2;
        hops = hop 0 1 0 ∷ hop 1 0 0 ∷ hop 1 1 2 ∷ hop 2 0 1 ∷ [];
        in1 = 0 ∷ 0 ∷ 0 ∷ 1 ∷ [];
        in2 = 0 ∷ 0 ∷ 0 ∷ 1 ∷ [];
        in3 = 0 ∷ 0 ∷ 0 ∷ 1 ∷ [];
        in8 = 0 ∷ 1 ∷ 0 ∷ 1 ∷ [];
      } ∷
      -- ours: R2 marks 1 to 0 and R3 doesn't
      record {
        graph = shape 2 2;
        hops = after;
        in1 = 0 ∷ 0 ∷ 0 ∷ [];
        in2 = 0 ∷ 1 ∷ 0 ∷ [];
        in3 = 0 ∷ 0 ∷ 0 ∷ [];
        in8 = 0 ∷ 1 ∷ 0 ∷ [];
      } ∷
      -- ours: R3 marks 0 to 1 and R2 doesn't
      record {
        graph = shape 3 2;
        hops = before;
        in1 = 0 ∷ 0 ∷ 1 ∷ 0 ∷ [];
        in2 = 0 ∷ 0 ∷ 1 ∷ 0 ∷ [];
        in3 = 1 ∷ 0 ∷ 1 ∷ 0 ∷ [];
        in8 = 1 ∷ 0 ∷ 1 ∷ 0 ∷ [];
      } ∷
      -- ours: "marked hops lead to s4", not silent ones: R2 does not mark 1 to 2
      record {
        graph = shape 3 2;
        hops = hop 1 0 2 ∷ hop 1 1 0 ∷ hop 2 0 0 ∷ hop 2 1 2 ∷ [];
        in1 = 0 ∷ 0 ∷ 0 ∷ 0 ∷ [];
        in2 = 0 ∷ 0 ∷ 0 ∷ 0 ∷ [];
        in3 = 0 ∷ 0 ∷ 0 ∷ 0 ∷ [];
        in8 = 0 ∷ 0 ∷ 0 ∷ 0 ∷ [];
      } ∷
      -- ours: a silent hop alone is answered by s2 itself
      record { graph = shape 2 1; hops = hop 0 0 1 ∷ []; in1 = 1 ∷ []; in2 = 1 ∷ []; in3 = 1 ∷ []; in8 = 1 ∷ [] } ∷
      -- ours, with a ring, which `mark` refuses: walks have an end there too, and R3 does not mark
      -- 0 to 1
      record { graph = shape 2 2; hops = ring; in1 = 0 ∷ 0 ∷ 1 ∷ []; in2 = 0 ∷ 0 ∷ 1 ∷ []; in3 = 0 ∷ 0 ∷ 1 ∷ []; in8 = 0 ∷ 0 ∷ 1 ∷ [] } ∷
      [];
  reductions =
      -- wish 7's case: under R8 one state and two hops fewer than under the others
      leaves (shape 5 2) case 1 3 3 (0 ∷ 1 ∷ 2 ∷ 2 ∷ 2 ∷ []) (hop 0 0 1 ∷ hop 0 1 2 ∷ hop 1 1 2 ∷ []) ∷
      leaves (shape 5 2) case 2 3 3 (0 ∷ 1 ∷ 2 ∷ 2 ∷ 2 ∷ []) (hop 0 0 1 ∷ hop 0 1 2 ∷ hop 1 1 2 ∷ []) ∷
      leaves (shape 5 2) case 3 3 3 (0 ∷ 1 ∷ 2 ∷ 2 ∷ 2 ∷ []) (hop 0 0 1 ∷ hop 0 1 2 ∷ hop 1 1 2 ∷ []) ∷
      leaves (shape 5 2) case 8 2 1 (0 ∷ 0 ∷ 1 ∷ 1 ∷ 1 ∷ []) (hop 0 1 1 ∷ []) ∷
      -- ours: by R2 alone, and by R3 alone, the whole graph is one state
      leaves (shape 2 2) after 2 1 1 (0 ∷ 0 ∷ []) (hop 0 1 0 ∷ []) ∷
      leaves (shape 2 2) after 3 2 3 (0 ∷ 1 ∷ []) after ∷
      leaves (shape 3 2) before 2 2 3 (0 ∷ 1 ∷ 1 ∷ []) (hop 0 0 1 ∷ hop 0 1 0 ∷ hop 1 1 1 ∷ []) ∷
      leaves (shape 3 2) before 3 1 1 (0 ∷ 0 ∷ 0 ∷ []) (hop 0 1 0 ∷ []) ∷
      [];
}
