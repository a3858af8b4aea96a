-- How the third sum is counted, by states of graph 1: of the hops of a state's image, silent ones
-- to itself aside, those without the state's stamp are faults. Assumes nothing: these are
-- definitions.
use Rattle.std.specs.Prelude.{ℕ, ◌<◌, Bool, cond, not, ◌&&◌, ◌||◌, List, get_or, eqb, ltb, Option, Some, None}
use Rattle.base_bounded.specs.Quantifiers.{least, tally}
use Rattle.graph.specs.Hops.{count, from, label, to}
use Rattle.graph.specs.declared.Shape.{Shape}
use Rattle.audit_faults.specs.Faults.{unmatched}
use Rattle.audit_faults.specs.First.{fault}
use Rattle.audit_faults.specs.declared.Fault.{Fault}

-- the hop at place j of graph 2 leaves r, is no silent hop from r to itself, and has not the stamp
-- k
unfoldable pub unstamped : List ℕ → List ℕ → ℕ → ℕ → ℕ → Bool
unstamped h2 stamps r k j = eqb r (from h2 j) && not ((eqb (label h2 j) 0 && eqb (from h2 j) (to h2 j)) || eqb (get_or stamps j 0) k)

-- no hop of graph 2 has the stamp k or a later one
unfoldable pub Fresh : List ℕ → List ℕ → ℕ → Type 0
Fresh h2 stamps k = (j : ℕ) → j < count h2 → get_or stamps j 0 < k

-- the faults of the pairs of a hop of graph 2 and the state s: the third sum is the sum of these
unfoldable pub unmatched_of : Shape → List ℕ → List ℕ → List ℕ → ℕ → ℕ
unmatched_of sh1 h1 h2 m s = tally (count h2) (λ (j : ℕ). unmatched sh1 h1 h2 m j s)

-- the place of the first hop of graph 2 that is unmatched for the state s, or the hop count
unfoldable pub unmatched_place_of : Shape → List ℕ → List ℕ → List ℕ → ℕ → ℕ
unmatched_place_of sh1 h1 h2 m s = least (count h2) (λ (j : ℕ). unmatched sh1 h1 h2 m j s)

-- the first fault of kind 3 so far, once a state is passed with the first place that is unmatched
-- for it: a smaller place than the one that is kept
abbrev pub kept_with : Option Fault → Option ℕ → ℕ → Option Fault
kept_with kept None s = kept
kept_with None (Some p) s = Some (fault 3 p s)
kept_with (Some f) (Some p) s = cond (ltb p f.place) (Some (fault 3 p s)) (Some f)
