-- The fault count of a map m from graph 1 to graph 2 (document 01 "Auditing"): a check of a
-- branching bisimulation given as a function. A map is a list, one entry a state of graph 1.
-- Assumes nothing: these are definitions.
use Rattle.std.specs.Prelude.{ℕ, ◌+◌, Bool, cond, not, ◌&&◌, ◌||◌, List, eqb}
use Rattle.base_bounded.specs.Quantifiers.{any, tally, total}
use Rattle.graph.specs.Hops.{count, from, label, to, has}
use Rattle.graph.specs.Map.{mapped}
use Rattle.graph.specs.declared.Shape.{Shape}
use Rattle.walk_silent.specs.Silent.{leads}

-- "1 if the map of initial state 1 is not initial state 2"
unfoldable pub initial_fault : Shape → Shape → List ℕ → ℕ
initial_fault sh1 sh2 m = cond (eqb (mapped m sh1.initial) sh2.initial) 0 1

-- the hop at place i of graph 1: "a is silent and map(s) = map(t), or graph 2 has the hop map(s),
-- a, map(t)"
unfoldable pub preserved : List ℕ → List ℕ → List ℕ → ℕ → Bool
preserved h1 h2 m i =
    (eqb (label h1 i) 0 && eqb (mapped m (from h1 i)) (mapped m (to h1 i))) ||
    has h2 (mapped m (from h1 i)) (label h1 i) (mapped m (to h1 i))

-- "1 for each hop s, a, t of graph 1, unless .."
unfoldable pub lost_faults : List ℕ → List ℕ → List ℕ → ℕ
lost_faults h1 h2 m = tally (count h1) (λ (i : ℕ). not (preserved h1 h2 m i))

-- u is "some u with map(u) = r that has a hop a to some t with map(t) = q"
unfoldable pub match_at : List ℕ → List ℕ → ℕ → ℕ → ℕ → ℕ → Bool
match_at h1 m r a q u =
    eqb (mapped m u) r && any (count h1) (λ (i : ℕ). eqb (from h1 i) u && (eqb (label h1 i) a && eqb (mapped m (to h1 i)) q))

-- "s leads by zero or more silent hops to some u .."
unfoldable pub matched_from : Shape → List ℕ → List ℕ → ℕ → ℕ → ℕ → ℕ → Bool
matched_from sh1 h1 m s r a q = any sh1.states (λ (u : ℕ). leads h1 sh1.states s u && match_at h1 m r a q u)

-- the hop at place j of graph 2 and the state s: "a is silent and r = q, or s leads .."
unfoldable pub matched : Shape → List ℕ → List ℕ → List ℕ → ℕ → ℕ → Bool
matched sh1 h1 h2 m j s =
    (eqb (label h2 j) 0 && eqb (from h2 j) (to h2 j)) || matched_from sh1 h1 m s (from h2 j) (label h2 j) (to h2 j)

-- "a pair of a hop r, a, q of graph 2 and a state s with map(s) = r" that is a fault
unfoldable pub unmatched : Shape → List ℕ → List ℕ → List ℕ → ℕ → ℕ → Bool
unmatched sh1 h1 h2 m j s = eqb (mapped m s) (from h2 j) && not (matched sh1 h1 h2 m j s)

-- "1 for each pair .., unless .."
unfoldable pub unmatched_faults : Shape → List ℕ → List ℕ → List ℕ → ℕ
unmatched_faults sh1 h1 h2 m = total (count h2) (λ (j : ℕ). tally sh1.states (unmatched sh1 h1 h2 m j))

-- "the fault count is the sum of .."
-- In the field: how often the transfer conditions of a branching bisimulation fail.
unfoldable pub faults_of : Shape → Shape → List ℕ → List ℕ → List ℕ → ℕ
faults_of sh1 sh2 h1 h2 m = initial_fault sh1 sh2 m + lost_faults h1 h2 m + unmatched_faults sh1 h1 h2 m
