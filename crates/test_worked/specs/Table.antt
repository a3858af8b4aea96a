-- "Graphs worked by hand": P1 to P10 as one table, and what the definitions yield for the same
-- graphs. Some rows are ours, and say so. Assumes nothing: these are definitions.
use Rattle.std.specs.Prelude.{ℕ, cond, not, ◌&&◌, List, [], ◌∷◌, map, length, eqb}
use Rattle.base_bounded.specs.Quantifiers.{least, tabulate}
use Rattle.graph.specs.Hops.{count, from, label, to, hop_of, flat}
use Rattle.graph.specs.Answers.{accepted, refused}
use Rattle.graph.specs.declared.Hop.{Hop}
use Rattle.graph.specs.declared.Shape.{Shape}
use Rattle.graph.specs.declared.Answer.{Answer}
use Rattle.mark_confluence.specs.Rounds.{survives}
use Rattle.mark_entry.specs.Mark.{marks_made, mark_answer}
use Rattle.mark_entry_fast.specs.Fast.{mark_fast_of}
use Rattle.reduce_entry.specs.Reduce.{reduced_map, reduced_hops, reduce_of}
use Rattle.reduce_entry.specs.declared.Reduction.{Reduction}
use Rattle.audit_faults.specs.First.{fault, no_fault}
use Rattle.audit_faults.specs.declared.Fault.{Fault}
use Rattle.audit_entry.specs.Audit.{audit_of}
use Rattle.audit_entry.specs.declared.Audit.{Audit}
use Rattle.graph_find.specs.Find.{find_of}
use Rattle.graph_find.specs.declared.Finding.{Finding}

-- a hop as document 01 writes it; a state count, a label count and an initial state, and the same
-- with initial state 0
abbrev pub hop : ℕ → ℕ → ℕ → Hop
hop s a t = hop_of s a t

abbrev pub shape_from : ℕ → ℕ → ℕ → Shape
shape_from n l i = record { states = n; labels = l; initial = i }

abbrev pub shape : ℕ → ℕ → Shape
shape n l = shape_from n l 0

-- what is said of a graph: what `mark` and `reduce` return for outputs that are long enough
-- ("Reduce .. returns the short graph's state, label and hop counts and initial state"), the marks,
-- for each hop the round in which it falls (0: it is visible, or survives every round), the number
-- of tests that `mark_fast` returns ("3 for P10"), the map and the short hops
pub record Outcome : Type 0 where
  pub answer : Answer
  pub reduced : Reduction
  pub marks : List ℕ
  pub falls : List ℕ
  pub tests : ℕ
  pub map : List ℕ
  pub short : List Hop

-- what is said of an audit: graph 1, graph 2, the map, and what the audit returns
pub record Audited : Type 0 where
  pub shape1 : Shape
  pub hops1 : List Hop
  pub shape2 : Shape
  pub hops2 : List Hop
  pub map : List ℕ
  pub audit : Audit

-- what is said of a search: the graph, the hop that is sought, and what `find` returns
pub record Sought : Type 0 where
  pub graph : Shape
  pub hops : List Hop
  pub hop : Hop
  pub finding : Finding

pub record Entry : Type 0 where
  pub graph : Shape
  pub hops : List Hop
  pub outcome : Outcome

pub record WorkedTable : Type 0 where
  pub graphs : List Entry
  pub audits : List Audited
  pub searches : List Sought

-- the definitions' own account of a graph; nothing is said past a refusal
unfoldable pub falls_in : List ℕ → ℕ → ℕ
falls_in hs i =
    cond (eqb (label hs i) 0 && not (survives hs (count hs) (from hs i) (to hs i)))
    (least (count hs) (λ (k : ℕ). not (survives hs k (from hs i) (to hs i)))) 0

abbrev pub refused_with : Answer → Outcome
refused_with a = record { answer = a; reduced = record { answer = a; shape = shape 0 0; hops = 0 }; marks = []; falls = []; tests = 0; map = []; short = [] }

unfoldable pub outcome_of : Shape → List ℕ → Outcome
outcome_of sh hs =
    cond (eqb (mark_answer sh hs 1 hs).number 0)
    (record {
      answer = mark_answer sh hs 1 hs;
      reduced = reduce_of sh hs 1 sh.states (length hs);
      marks = marks_made sh hs 1;
      falls = tabulate (count hs) (falls_in hs);
      tests = (mark_fast_of sh hs hs).tests;
      map = reduced_map sh hs 1;
      short = reduced_hops sh hs 1;
    })
    (record {
      answer = mark_answer sh hs 1 hs;
      reduced = reduce_of sh hs 1 sh.states (length hs);
      marks = [];
      falls = [];
      tests = (mark_fast_of sh hs hs).tests;
      map = [];
      short = [];
    })

abbrev pub entry_of : Entry → Entry
entry_of e = record { graph = e.graph; hops = e.hops; outcome = outcome_of e.graph (flat e.hops) }

abbrev pub audited_of : Audited → Audited
audited_of a = record {
  shape1 = a.shape1;
  hops1 = a.hops1;
  shape2 = a.shape2;
  hops2 = a.hops2;
  map = a.map;
  audit = audit_of a.shape1 a.shape2 (flat a.hops1) (flat a.hops2) a.map;
}

abbrev pub sought_of : Sought → Sought
sought_of q = record {
  graph = q.graph;
  hops = q.hops;
  hop = q.hop;
  finding = find_of q.graph (flat q.hops) q.hop.from q.hop.label q.hop.to;
}

abbrev pub table_of : WorkedTable → WorkedTable
table_of t = record { graphs = map entry_of t.graphs; audits = map audited_of t.audits; searches = map sought_of t.searches }

-- the hop lists, in ascending order
abbrev p1 : List Hop
p1 = hop 0 0 1 ∷ hop 0 1 2 ∷ hop 1 1 3 ∷ hop 2 0 3 ∷ []

abbrev p2 : List Hop
p2 = hop 0 0 1 ∷ hop 0 1 2 ∷ hop 1 1 3 ∷ []

abbrev p3 : List Hop
p3 = hop 0 0 1 ∷ hop 0 0 2 ∷ []

abbrev p4 : List Hop
p4 = hop 0 0 1 ∷ hop 0 0 2 ∷ hop 1 0 2 ∷ []

abbrev p5 : List Hop
p5 = hop 0 0 1 ∷ hop 0 0 2 ∷ hop 1 0 3 ∷ hop 1 1 4 ∷ hop 2 0 3 ∷ []

abbrev p6 : List Hop
p6 = hop 0 0 1 ∷ hop 0 1 0 ∷ hop 1 1 1 ∷ []

abbrev p7 : List Hop
p7 = hop 0 0 0 ∷ []

abbrev p8 : List Hop
p8 = hop 0 0 1 ∷ hop 1 0 2 ∷ hop 2 0 1 ∷ []

abbrev p10 : List Hop
p10 = hop 0 0 1 ∷ hop 0 1 2 ∷ hop 1 1 3 ∷ hop 2 0 3 ∷ hop 2 2 4 ∷ []

-- the marks, the falls, the number of tests, the map, the short graph's shape, its hop count and
-- its hops
abbrev accepts : List ℕ → List ℕ → ℕ → List ℕ → Shape → ℕ → List Hop → Outcome
accepts m f k t sh n s = record {
  answer = accepted;
  reduced = record { answer = accepted; shape = sh; hops = n };
  marks = m;
  falls = f;
  tests = k;
  map = t;
  short = s;
}

abbrev finds : ℕ → Fault → Audit
finds n f = record { answer = accepted; faults = n; first = f }

-- a hop of P1 that is sought: found 1 or 0, and the place
abbrev in_p1 : Hop → ℕ → ℕ → Sought
in_p1 h n p = record { graph = shape 4 2; hops = p1; hop = h; finding = record { answer = accepted; found = n; place = p } }

-- document 01's figures, and document 02's of wishes 3 and 10
abbrev pub table : WorkedTable
table = record {
  graphs =
      record {
        graph = shape 4 2;
        hops = p1;
        outcome = accepts (1 ∷ 0 ∷ 0 ∷ 1 ∷ []) (0 ∷ 0 ∷ 0 ∷ 0 ∷ []) 2 (0 ∷ 0 ∷ 1 ∷ 1 ∷ []) (shape 2 2) 1 (hop 0 1 1 ∷ []);
      } ∷
      record {
        graph = shape 4 2;
        hops = p2;
        outcome = accepts (0 ∷ 0 ∷ 0 ∷ []) (1 ∷ 0 ∷ 0 ∷ []) 1 (0 ∷ 1 ∷ 2 ∷ 3 ∷ []) (shape 4 2) 3 p2;
      } ∷
      record {
        graph = shape 3 1;
        hops = p3;
        outcome = accepts (0 ∷ 0 ∷ []) (1 ∷ 1 ∷ []) 2 (0 ∷ 1 ∷ 2 ∷ []) (shape 3 1) 2 p3;
      } ∷
      record {
        graph = shape 3 1;
        hops = p4;
        outcome = accepts (1 ∷ 1 ∷ 1 ∷ []) (0 ∷ 0 ∷ 0 ∷ []) 3 (0 ∷ 0 ∷ 0 ∷ []) (shape 1 1) 0 [];
      } ∷
      record {
        graph = shape 5 2;
        hops = p5;
        outcome =
            accepts (1 ∷ 0 ∷ 0 ∷ 0 ∷ 1 ∷ []) (0 ∷ 2 ∷ 1 ∷ 0 ∷ 0 ∷ []) 6 (0 ∷ 0 ∷ 1 ∷ 1 ∷ 2 ∷ []) (shape 3 2) 2 (hop 0 0 1 ∷ hop 0 1 2 ∷ []);
      } ∷
      record {
        graph = shape 2 2;
        hops = p6;
        outcome = accepts (1 ∷ 0 ∷ 0 ∷ []) (0 ∷ 0 ∷ 0 ∷ []) 1 (0 ∷ 0 ∷ []) (shape 1 2) 1 (hop 0 1 0 ∷ []);
      } ∷
      record { graph = shape 1 1; hops = p7; outcome = refused_with (refused 5 0) } ∷
      record { graph = shape 3 1; hops = p8; outcome = refused_with (refused 5 1) } ∷
      record {
        graph = shape 5 3;
        hops = p10;
        outcome = accepts (0 ∷ 0 ∷ 0 ∷ 0 ∷ 0 ∷ []) (2 ∷ 0 ∷ 0 ∷ 1 ∷ 0 ∷ []) 3 (0 ∷ 1 ∷ 2 ∷ 3 ∷ 4 ∷ []) (shape 5 3) 5 p10;
      } ∷
      -- ours: P1 begun in state 2, whose representative is state 3, of new number 1 ("Its initial
      -- state is the map of the old one")
      record {
        graph = shape_from 4 2 2;
        hops = p1;
        outcome = accepts (1 ∷ 0 ∷ 0 ∷ 1 ∷ []) (0 ∷ 0 ∷ 0 ∷ 0 ∷ []) 2 (0 ∷ 0 ∷ 1 ∷ 1 ∷ []) (shape_from 2 2 1) 1 (hop 0 1 1 ∷ []);
      } ∷
      -- ours: the representative is state 0, which the silent hop of state 1 leads to, and not the
      -- highest member of the class, which lacks the hop labelled 2
      record {
        graph = shape 2 3;
        hops = hop 0 1 0 ∷ hop 0 2 0 ∷ hop 1 0 0 ∷ hop 1 1 0 ∷ [];
        outcome = accepts (0 ∷ 0 ∷ 1 ∷ 0 ∷ []) (0 ∷ 0 ∷ 0 ∷ 0 ∷ []) 1 (0 ∷ 0 ∷ []) (shape 1 3) 2 (hop 0 1 0 ∷ hop 0 2 0 ∷ []);
      } ∷
      [];
  -- P9: P1 with its result; with the short hop taken out; with (1,1,1) added to the short graph
  audits =
      record { shape1 = shape 4 2; hops1 = p1; shape2 = shape 2 2; hops2 = hop 0 1 1 ∷ []; map = 0 ∷ 0 ∷ 1 ∷ 1 ∷ []; audit = finds 0 no_fault } ∷
      record { shape1 = shape 4 2; hops1 = p1; shape2 = shape 2 2; hops2 = []; map = 0 ∷ 0 ∷ 1 ∷ 1 ∷ []; audit = finds 2 (fault 2 1 0) } ∷
      record {
        shape1 = shape 4 2;
        hops1 = p1;
        shape2 = shape 2 2;
        hops2 = hop 0 1 1 ∷ hop 1 1 1 ∷ [];
        map = 0 ∷ 0 ∷ 1 ∷ 1 ∷ [];
        audit = finds 2 (fault 3 1 2);
      } ∷
      [];
  -- ours: hops of P1; a hop that it has not, which would stand between two, before all or behind
  -- all; and numbers that no graph has
  searches =
      in_p1 (hop 0 0 1) 1 0 ∷
      in_p1 (hop 2 0 3) 1 3 ∷
      in_p1 (hop 1 0 3) 0 2 ∷
      in_p1 (hop 0 0 0) 0 0 ∷
      in_p1 (hop 3 0 0) 0 4 ∷
      in_p1 (hop 0 70000 0) 0 2 ∷
      [];
}
