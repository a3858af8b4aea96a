-- What only private functions and proofs cite beside `Hops`. Assumes nothing: these are
-- definitions.
use Rattle.std.specs.Prelude.{ℕ, zero, suc, ◌+◌, List, [], ◌∷◌, ◌++◌, length, set, drop}
use Rattle.graph.specs.declared.Hop.{Hop}
use Rattle.graph.specs.Hops.{flat, hop_at, hop_of, number_place}

-- what stands past the end of a list of hops
abbrev pub no_hop : Hop
no_hop = hop_of 0 0 0

-- the list with h for the hop at place i
abbrev pub put : List ℕ → ℕ → Hop → List ℕ
put hs i h =
    set (set (set (set hs (number_place i) h.from) (number_place i + 1) h.label) (number_place i + 2) h.to) (number_place i + 3) h.line

-- the first n hops of a list
unfoldable pub front : ℕ → List ℕ → List Hop
front zero hs = []
front (suc n) hs = front n hs ++ (hop_at hs n ∷ [])

-- the list with the hops xs written at its front
unfoldable pub over : List Hop → List ℕ → List ℕ
over xs hs = flat xs ++ drop (length (flat xs)) hs
