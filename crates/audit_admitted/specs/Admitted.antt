-- Whether two graphs and a map can be audited: admitted maps, rows 7 and 8, and the audit's answer.
-- Assumes nothing: these are definitions.
use Rattle.std.specs.Prelude.{ℕ, ◌<◌, ◌≡◌, cond, not, List, length, eqb, ltb}
use Rattle.base_bounded.specs.Quantifiers.{least}
use Rattle.graph.specs.Answers.{accepted, refused, in_table, and_then, refusal_answer}
use Rattle.audit_admitted.specs.declared.AuditRefusal.{AuditRefusal}
use Rattle.audit_admitted.specs.declared.AuditRefusal.TheVariants.{Graph2, Other}
use Rattle.graph.specs.Map.{mapped}
use Rattle.graph.specs.declared.Shape.{Shape}
use Rattle.graph.specs.declared.Answer.{Answer}
use Rattle.graph_check.specs.Check.{check_of, Admitted}

-- "a map, when its length is state count 1 and each entry is below state count 2"
pub record AdmittedMap (sh1 sh2 : Shape) (m : List ℕ) : Type 0 where
  pub one_a_state : length m ≡ sh1.states
  pub entries_in : (s : ℕ) → s < sh1.states → mapped m s < sh2.states

-- row 7: "label counts of graphs 1 and 2 differ"
abbrev pub same_labels : Shape → Shape → Answer
same_labels sh1 sh2 = cond (eqb sh1.labels sh2.labels) accepted (refused 7 0)

-- row 8: "map length not state count 1, else an entry not below state count 2", place "the length,
-- else first such entry"
unfoldable pub first_high : Shape → List ℕ → ℕ
first_high sh2 m = least (length m) (λ (s : ℕ). not (ltb (mapped m s) sh2.states))

unfoldable pub map_fits : Shape → Shape → List ℕ → Answer
map_fits sh1 sh2 m =
    cond (eqb (length m) sh1.states) (cond (ltb (first_high sh2 m) (length m)) (refused 8 (first_high sh2 m)) accepted) (refused 8 (length m))

-- "the audit checks graph 1 for 1 to 4, then graph 2, then 7, 8"
unfoldable pub audit_answer : Shape → Shape → List ℕ → List ℕ → List ℕ → Answer
audit_answer sh1 sh2 h1 h2 m =
    and_then (check_of sh1 h1) (and_then (in_table 2 (check_of sh2 h2)) (and_then (same_labels sh1 sh2) (map_fits sh1 sh2 m)))

-- "If the answer is an enum, a definition gives this paper's number and values for each of its
-- cases", and "table (2 only for graph 2 of the audit, else 1)"
abbrev pub audit_refusal_answer : AuditRefusal → Answer
audit_refusal_answer (Graph2 r) = in_table 2 (refusal_answer r)
audit_refusal_answer (Other r) = refusal_answer r

-- both graphs and the map are admitted, and the label counts agree
pub record Audited (sh1 sh2 : Shape) (h1 h2 m : List ℕ) : Type 0 where
  pub first : Admitted sh1 h1
  pub second : Admitted sh2 h2
  pub labels : sh1.labels ≡ sh2.labels
  pub map : AdmittedMap sh1 sh2 m
