-- Composition of maps: maps put one after the other (document 02, wish 13). A map is a list, one
-- entry a state. Assumes nothing: these are definitions.
use Rattle.std.specs.Prelude.{ℕ, List, length}
use Rattle.base_bounded.specs.Quantifiers.{tabulate}
use Rattle.graph.specs.Map.{mapped}

-- "one after the other": m leads from graph 1 to graph 2, n from graph 2 to graph 3, and this from
-- graph 1 to graph 3.
-- In the field: composition of functions.
unfoldable pub composed : List ℕ → List ℕ → List ℕ
composed m n = tabulate (length m) (λ (s : ℕ). mapped n (mapped m s))

-- each state's own number: the map from a graph to itself
unfoldable pub identity_map : ℕ → List ℕ
identity_map n = tabulate n (λ (s : ℕ). s)
