-- Branching bisimulation between two graphs, Definition 2.4 as document 01 writes it out, and the
-- map taken as a relation. Assumes nothing: these are definitions.
use Rattle.std.specs.Prelude.{ℕ, ◌<◌, ◌≡◌, ◌⊎◌, List}
use Rattle.graph.specs.declared.Shape.{Shape}
use Rattle.walk_silent.specs.Silent.{HopOf, Leads}
use Rattle.graph.specs.Map.{mapped}

-- "Let B be any set of pairs, each a state of graph 1 with a state of graph 2."
abbrev pub StatePairs : Shape → Shape → (ℕ → ℕ → Type 0) → Type 0
StatePairs sh1 sh2 B = (s r : ℕ) → B s r → (s < sh1.states) × (r < sh2.states)

-- "B is a branching bisimulation when for each pair s, r in B .."
pub record BranchingBisimulation (sh1 sh2 : Shape) (h1 h2 : List ℕ) (B : ℕ → ℕ → Type 0) : Type 0 where
  pub pairs : StatePairs sh1 sh2 B
  -- "for each hop s, a, t of graph 1, a is silent and t, r is in B, or r leads by zero or more
  -- silent hops of graph 2 to some u that has a hop labelled a to some v, with s, u and t, v both
  -- in B"
  pub there :
      (s r : ℕ) → B s r → (a t : ℕ) → HopOf h1 s a t →
      ((a ≡ 0) × B t r) ⊎ ((u : ℕ) × (v : ℕ) × Leads h2 r u × HopOf h2 u a v × B s u × B t v)
  -- "for each hop r, a, q of graph 2, a is silent and s, q is in B, or s leads by zero or more
  -- silent hops of graph 1 to some u that has a hop labelled a to some t, with u, r and t, q both
  -- in B"
  pub back :
      (s r : ℕ) → B s r → (a q : ℕ) → HopOf h2 r a q →
      ((a ≡ 0) × B s q) ⊎ ((u : ℕ) × (t : ℕ) × Leads h1 s u × HopOf h1 u a t × B u r × B t q)

-- "The map taken as a relation is the set of pairs s, map(s), one for each state s of graph 1."
abbrev pub MapRelation : Shape → List ℕ → ℕ → ℕ → Type 0
MapRelation sh1 m s r = (s < sh1.states) × (mapped m s ≡ r)

-- "It joins the initial states when initial state 1 with initial state 2 is one of its pairs."
abbrev pub JoinsInitial : Shape → Shape → (ℕ → ℕ → Type 0) → Type 0
JoinsInitial sh1 sh2 B = B sh1.initial sh2.initial
