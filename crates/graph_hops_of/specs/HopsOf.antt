-- Hops (outgoing transitions) of a state: "For a side, 1 or 2, and a state, the outgoing hops are
-- shown as a part of that table itself. The part is empty for another side, an absent state, or if
-- either table breaks checks 1 to 4." Assumes nothing: these are definitions.
use Rattle.std.specs.Prelude.{ℕ, ◌-◌, Bool, cond, ◌&&◌, List, [], eqb, ltb}
use Rattle.std.specs.Borrow.{Bor}
use Rattle.graph.specs.Hops.{number_place, between, part_address}
use Rattle.graph.specs.Search.{first_of, past_of}
use Rattle.graph_check.specs.Check.{check_of}
use Rattle.graph.specs.declared.Shape.{Shape}
use Rattle.graph_hops_of.specs.declared.Span.{Span}

-- both tables pass checks 1 to 4 (that label counts differ does not matter)
unfoldable pub both_pass : Shape → List ℕ → Shape → List ℕ → Bool
both_pass sh1 h1 sh2 h2 = eqb (check_of sh1 h1).number 0 && eqb (check_of sh2 h2).number 0

-- the side whose hops are returned: 1, 2, or 0 for none
unfoldable pub chosen : ℕ → ℕ → Shape → List ℕ → Shape → List ℕ → ℕ
chosen side s sh1 h1 sh2 h2 =
    cond (both_pass sh1 h1 sh2 h2)
    (cond (eqb side 1 && ltb s sh1.states) 1
    (cond (eqb side 2 && ltb s sh2.states) 2 0)) 0

abbrev pub outgoing : List ℕ → ℕ → List ℕ
outgoing hs s = between hs (first_of hs s) (past_of hs s)

-- what the part holds
unfoldable pub hops_of_side : ℕ → ℕ → List ℕ → List ℕ → List ℕ
hops_of_side which s h1 h2 = cond (eqb which 1) (outgoing h1 s) (cond (eqb which 2) (outgoing h2 s) [])

-- where it stands: in the chosen table, where the state's hops begin (or would, if it has none);
-- where no table is chosen, at the front of table 1. Document 01 leaves an empty part's position
-- free
unfoldable pub hops_of_address : ℕ → ℕ → Bor (List ℕ) → Bor (List ℕ) → ℕ × ℕ
hops_of_address which s t1 t2 =
    cond (eqb which 1) (part_address t1 (first_of t1.now s)) (cond (eqb which 2) (part_address t2 (first_of t2.now s)) (part_address t1 0))

-- the same part by start and length in numbers of its table; 0 and 0 wherever it is empty, also for
-- a state that has no hops
abbrev pub no_span : Span
no_span = record { start = 0; length = 0 }

unfoldable pub span_in : List ℕ → ℕ → Span
span_in hs s =
    cond (eqb (first_of hs s) (past_of hs s)) no_span
    (record { start = number_place (first_of hs s); length = number_place (past_of hs s) - number_place (first_of hs s) })

unfoldable pub span_of : ℕ → ℕ → List ℕ → List ℕ → Span
span_of which s h1 h2 = cond (eqb which 1) (span_in h1 s) (cond (eqb which 2) (span_in h2 s) no_span)
