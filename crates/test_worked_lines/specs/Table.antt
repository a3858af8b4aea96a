-- Graphs worked by hand for source lines: those of wish 2 and its readings, and ours, as one table,
-- and what the definitions yield for the same graphs. Assumes nothing: these are definitions.
use Rattle.std.specs.Prelude.{ℕ, List, [], ◌∷◌, map}
use Rattle.graph.specs.Hops.{lined_hop, flat}
use Rattle.graph.specs.Answers.{accepted, refused}
use Rattle.graph.specs.declared.Hop.{Hop}
use Rattle.graph.specs.declared.Shape.{Shape}
use Rattle.graph.specs.declared.Answer.{Answer}
use Rattle.reduce_entry.specs.Reduce.{reduce_answer, reduced_hops}

-- a hop with its line; a state count and a label count, with initial state 0
abbrev pub hop : ℕ → ℕ → ℕ → ℕ → Hop
hop s a t l = lined_hop s a t l

abbrev pub shape : ℕ → ℕ → Shape
shape n l = record { states = n; labels = l; initial = 0 }

-- what is said of a graph: its short hops under sense 1, with their lines
pub record Carried : Type 0 where
  pub graph : Shape
  pub hops : List Hop
  pub short : List Hop

-- what is said of an answer: the graph, the capacity of the output for short hops, and what
-- `reduce` answers under sense 1
pub record CapacityAsked : Type 0 where
  pub graph : Shape
  pub hops : List Hop
  pub numbers : ℕ
  pub answer : Answer

pub record LinesTable : Type 0 where
  pub carried : List Carried
  pub answers : List CapacityAsked

-- the definitions' own account
abbrev pub carried_of : Carried → Carried
carried_of c = record { graph = c.graph; hops = c.hops; short = reduced_hops c.graph (flat c.hops) 1 }

abbrev pub capacity_asked_of : CapacityAsked → CapacityAsked
capacity_asked_of q = record {
  graph = q.graph;
  hops = q.hops;
  numbers = q.numbers;
  answer = reduce_answer q.graph (flat q.hops) 1 q.graph.states q.numbers;
}

abbrev pub table_of : LinesTable → LinesTable
table_of t = record { carried = map carried_of t.carried; answers = map capacity_asked_of t.answers }

abbrev pub table : LinesTable
table = record {
  carried =
      -- M4: "P1 with lines 3, 4, 5, 2", of which the representative 1 has the hop with 5, and the
      -- like hop of 0 has 4
      record {
        graph = shape 4 2;
        hops = hop 0 0 1 3 ∷ hop 0 1 2 4 ∷ hop 1 1 3 5 ∷ hop 2 0 3 2 ∷ [];
        short = hop 0 1 1 5 ∷ [];
      } ∷
      -- M13: P1 without lines
      record {
        graph = shape 4 2;
        hops = hop 0 0 1 0 ∷ hop 0 1 2 0 ∷ hop 1 1 3 0 ∷ hop 2 0 3 0 ∷ [];
        short = hop 0 1 1 0 ∷ [];
      } ∷
      -- ours: the like hop of another member has a line, and the representative's has none
      record {
        graph = shape 4 2;
        hops = hop 0 0 1 3 ∷ hop 0 1 2 4 ∷ hop 1 1 3 0 ∷ hop 2 0 3 2 ∷ [];
        short = hop 0 1 1 0 ∷ [];
      } ∷
      -- M4: "P6 with lines 3, 4, 5: the short hop carries 5, not 4"
      record { graph = shape 2 2; hops = hop 0 0 1 3 ∷ hop 0 1 0 4 ∷ hop 1 1 1 5 ∷ []; short = hop 0 1 0 5 ∷ [] } ∷
      -- M5: "Lines 0, 7, 3 give 3": three hops of state 0 become one, since 1 and 2 lead silently
      -- to 3
      record {
        graph = shape 4 2;
        hops = hop 0 1 1 0 ∷ hop 0 1 2 7 ∷ hop 0 1 3 3 ∷ hop 1 0 3 1 ∷ hop 2 0 3 2 ∷ [];
        short = hop 0 1 1 3 ∷ [];
      } ∷
      -- ours: the largest line, behind none
      record {
        graph = shape 4 2;
        hops = hop 0 1 1 65535 ∷ hop 0 1 2 0 ∷ hop 0 1 3 0 ∷ hop 1 0 3 1 ∷ hop 2 0 3 2 ∷ [];
        short = hop 0 1 1 65535 ∷ [];
      } ∷
      [];
  answers =
      -- M2: "two hops that differ only in their lines are 4. Lines need not ascend"
      record { graph = shape 2 2; hops = hop 0 1 1 4 ∷ hop 0 1 1 5 ∷ []; numbers = 8; answer = refused 4 1 } ∷
      record { graph = shape 2 2; hops = hop 0 1 0 9 ∷ hop 0 1 1 5 ∷ []; numbers = 8; answer = accepted } ∷
      -- M6: "four numbers for each hop of the input"
      record { graph = shape 2 2; hops = hop 0 1 0 9 ∷ hop 0 1 1 5 ∷ []; numbers = 7; answer = refused 6 0 } ∷
      [];
}
