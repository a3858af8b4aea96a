-- Answers worked by hand, as one table, and what the definitions yield for the same calls. All rows
-- are ours. Assumes nothing: these are definitions.
use Rattle.std.specs.Prelude.{ℕ, List, [], ◌∷◌, map, length}
use Rattle.graph.specs.Hops.{hop_of, flat}
use Rattle.graph.specs.Answers.{accepted, refused}
use Rattle.graph.specs.declared.Hop.{Hop}
use Rattle.graph.specs.declared.Shape.{Shape}
use Rattle.graph.specs.declared.Answer.{Answer}
use Rattle.graph_check.specs.Check.{check_of}
use Rattle.mark_entry.specs.Mark.{mark_answer}
use Rattle.reduce_entry.specs.Reduce.{reduce_of}
use Rattle.reduce_entry.specs.declared.Reduction.{Reduction}
use Rattle.audit_faults.specs.First.{fault, no_fault}
use Rattle.audit_faults.specs.declared.Fault.{Fault}
use Rattle.audit_entry.specs.Audit.{audit_of}
use Rattle.audit_entry.specs.declared.Audit.{Audit}

-- a hop as document 01 writes it; a state count, a label count and an initial state, and the same
-- with initial state 0
abbrev pub hop : ℕ → ℕ → ℕ → Hop
hop s a t = hop_of s a t

abbrev pub shape_from : ℕ → ℕ → ℕ → Shape
shape_from n l i = record { states = n; labels = l; initial = i }

abbrev pub shape : ℕ → ℕ → Shape
shape n l = shape_from n l 0

-- what `check` answers for a graph
pub record Checked : Type 0 where
  pub graph : Shape
  pub hops : List Hop
  pub answer : Answer

-- what `mark` answers for a graph, the number of a sense and an output
pub record MarkAsked : Type 0 where
  pub graph : Shape
  pub hops : List Hop
  pub sense : ℕ
  pub marks : List ℕ
  pub answer : Answer

-- what `reduce` returns for a graph, the number of a sense and outputs that are so long
pub record ReduceAsked : Type 0 where
  pub graph : Shape
  pub hops : List Hop
  pub sense : ℕ
  pub entries : ℕ
  pub numbers : ℕ
  pub returned : Reduction

-- what the audit of two graphs and a map returns
pub record AuditAsked : Type 0 where
  pub shape1 : Shape
  pub hops1 : List Hop
  pub shape2 : Shape
  pub hops2 : List Hop
  pub map : List ℕ
  pub audit : Audit

pub record AnswersTable : Type 0 where
  pub checks : List Checked
  pub marks : List MarkAsked
  pub reductions : List ReduceAsked
  pub audits : List AuditAsked

-- the definitions' own account
abbrev pub checked_of : Checked → Checked
checked_of q = record { graph = q.graph; hops = q.hops; answer = check_of q.graph (flat q.hops) }

abbrev pub mark_asked_of : MarkAsked → MarkAsked
mark_asked_of q = record {
  graph = q.graph;
  hops = q.hops;
  sense = q.sense;
  marks = q.marks;
  answer = mark_answer q.graph (flat q.hops) q.sense q.marks;
}

abbrev pub reduce_asked_of : ReduceAsked → ReduceAsked
reduce_asked_of q = record {
  graph = q.graph;
  hops = q.hops;
  sense = q.sense;
  entries = q.entries;
  numbers = q.numbers;
  returned = reduce_of q.graph (flat q.hops) q.sense q.entries q.numbers;
}

abbrev pub audit_asked_of : AuditAsked → AuditAsked
audit_asked_of a = record {
  shape1 = a.shape1;
  hops1 = a.hops1;
  shape2 = a.shape2;
  hops2 = a.hops2;
  map = a.map;
  audit = audit_of a.shape1 a.shape2 (flat a.hops1) (flat a.hops2) a.map;
}

abbrev pub table_of : AnswersTable → AnswersTable
table_of t = record {
  checks = map checked_of t.checks;
  marks = map mark_asked_of t.marks;
  reductions = map reduce_asked_of t.reductions;
  audits = map audit_asked_of t.audits;
}

-- wish 7's case, five hops, of which one is left in sense 8; a graph with a ring; P1
abbrev case : List Hop
case = hop 0 0 1 ∷ hop 0 1 2 ∷ hop 1 1 3 ∷ hop 2 0 4 ∷ hop 4 0 3 ∷ []

abbrev ring : List Hop
ring = hop 0 0 1 ∷ hop 0 1 0 ∷ hop 1 0 1 ∷ []

abbrev p1 : List Hop
p1 = hop 0 0 1 ∷ hop 0 1 2 ∷ hop 1 1 3 ∷ hop 2 0 3 ∷ []

abbrev checks : List Hop → Answer → Checked
checks hs a = record { graph = shape 2 2; hops = hs; answer = a }

abbrev marks : Shape → List Hop → ℕ → List ℕ → Answer → MarkAsked
marks sh hs k ms a = record { graph = sh; hops = hs; sense = k; marks = ms; answer = a }

-- "with any number but 0 every other figure in the answer is 0"
abbrev refused_with : Answer → Reduction
refused_with a = record { answer = a; shape = shape 0 0; hops = 0 }

abbrev leaves : Shape → ℕ → Reduction
leaves sh n = record { answer = accepted; shape = sh; hops = n }

abbrev reduces : Shape → List Hop → ℕ → ℕ → ℕ → Reduction → ReduceAsked
reduces sh hs k m n r = record { graph = sh; hops = hs; sense = k; entries = m; numbers = n; returned = r }

abbrev finds : ℕ → Fault → Audit
finds n f = record { answer = accepted; faults = n; first = f }

abbrev audits : Shape → List Hop → Shape → List Hop → List ℕ → Audit → AuditAsked
audits sh1 h1 sh2 h2 m a = record { shape1 = sh1; hops1 = h1; shape2 = sh2; hops2 = h2; map = m; audit = a }

abbrev pub table : AnswersTable
table = record {
  checks =
      -- 3: "first such hop"; it speaks before 4
      checks (hop 0 1 0 ∷ hop 0 2 0 ∷ []) (refused 3 1) ∷
      checks (hop 1 1 0 ∷ hop 0 2 0 ∷ []) (refused 3 1) ∷
      -- 4: "a hop not above the one before", in the order by from, then label, then to
      checks (hop 0 1 0 ∷ hop 1 0 0 ∷ hop 1 0 0 ∷ []) (refused 4 2) ∷
      checks (hop 0 0 1 ∷ hop 0 1 0 ∷ hop 1 0 0 ∷ []) accepted ∷
      checks (hop 0 1 0 ∷ hop 0 0 1 ∷ []) (refused 4 1) ∷
      [];
  marks =
      -- "19 for another sense, after 4 and before 5"
      marks (shape 2 2) (hop 0 1 0 ∷ hop 0 0 1 ∷ []) 4 [] (refused 4 1) ∷
      marks (shape 2 2) ring 4 [] (refused 19 0) ∷
      -- "Order is ascending": a ring speaks before an output that is too short
      marks (shape 2 2) ring 1 [] (refused 5 1) ∷
      -- 6: "marks, one a hop"
      marks (shape 5 2) case 1 (9 ∷ 9 ∷ 9 ∷ 9 ∷ []) (refused 6 0) ∷
      marks (shape 5 2) case 1 (9 ∷ 9 ∷ 9 ∷ 9 ∷ 9 ∷ []) accepted ∷
      [];
  reductions =
      -- "19 for another sense"
      reduces (shape 5 2) case 0 5 20 (refused_with (refused 19 0)) ∷
      reduces (shape 5 2) case 4 5 20 (refused_with (refused 19 0)) ∷
      reduces (shape 5 2) case 9 5 20 (refused_with (refused 19 0)) ∷
      reduces (shape 5 2) case 4294967295 5 20 (refused_with (refused 19 0)) ∷
      -- ".. after 4 and before 5", and so before 6
      reduces (shape 2 2) (hop 0 1 0 ∷ hop 0 0 1 ∷ []) 4 2 8 (refused_with (refused 4 1)) ∷
      reduces (shape 2 2) ring 4 0 0 (refused_with (refused 19 0)) ∷
      reduces (shape 2 2) ring 8 0 0 (refused_with (refused 5 1)) ∷
      reduces (shape 5 2) case 4 0 0 (refused_with (refused 19 0)) ∷
      -- 6: "map, one a state; short hops, three a hop of the input", four by wish 2, and not of the
      -- output, of which one is left here
      reduces (shape 5 2) case 8 4 20 (refused_with (refused 6 0)) ∷
      reduces (shape 5 2) case 8 5 19 (refused_with (refused 6 0)) ∷
      reduces (shape 5 2) case 8 5 20 (leaves (shape 2 2) 1) ∷
      [];
  audits =
      -- "with any number but 0 every other figure in the answer is 0": 7, of a map that has faults
      audits (shape 4 2) p1 (shape 2 3) [] (0 ∷ 0 ∷ 1 ∷ 1 ∷ []) (record { answer = refused 7 0; faults = 0; first = no_fault }) ∷
      -- P1 begun in state 2, with a short graph that begins in its state 0 and not in 1, the map of
      -- 2
      audits (shape_from 4 2 2) p1 (shape 2 2) (hop 0 1 1 ∷ []) (0 ∷ 0 ∷ 1 ∷ 1 ∷ []) (finds 1 (fault 1 0 0)) ∷
      -- a fault of each kind, (1,1,1) for the short hop, and the first is that of the initial
      -- states
      audits (shape_from 4 2 2) p1 (shape 2 2) (hop 1 1 1 ∷ []) (0 ∷ 0 ∷ 1 ∷ 1 ∷ []) (finds 5 (fault 1 0 0)) ∷
      -- a later state has the fault of an earlier hop, and that is the first
      audits (shape 2 3) (hop 0 1 0 ∷ hop 1 2 1 ∷ []) (shape 1 3) (hop 0 1 0 ∷ hop 0 2 0 ∷ []) (0 ∷ 0 ∷ []) (finds 2 (fault 3 0 1)) ∷
      [];
}
