-- Where the hops of graph 1 stand in graph 2 once they are mapped. Assumes nothing: these are
-- definitions.
use Rattle.std.specs.Prelude.{Result, Ok, Err}
use Rattle.std.specs.Prelude.{ℕ, ◌<◌, ◌≡◌, List, length, get_or}
use Rattle.graph.specs.Hops.{count, from, label, to, hop_of}
use Rattle.graph.specs.Internal.Search.{placed}
use Rattle.graph.specs.Answers.{most_states, most_hops}
use Rattle.graph.specs.Map.{mapped}
use Rattle.graph.specs.declared.Hop.{Hop}
use Rattle.graph.specs.declared.Shape.{Shape}
use Rattle.graph_check.specs.Check.{Admitted}
use Rattle.graph_successors.specs.Internal.SuccessorIndex.{Indexable}

-- what the count asks of the two hop lists and the map, once the audit has admitted them
pub record Auditable (sh1 : Shape) (h1 h2 m : List ℕ) : Type 0 where
  pub admitted : Admitted sh1 h1
  pub ready : Indexable h2
  pub one_a_state : length m ≡ sh1.states
  pub entries_in : (s : ℕ) → s < sh1.states → mapped m s < most_states

-- "map(s), a, map(t)": what the hop at place i of graph 1 is in graph 2
abbrev pub mapped_hop : List ℕ → List ℕ → ℕ → Hop
mapped_hop h1 m i = hop_of (mapped m (from h1 i)) (label h1 i) (mapped m (to h1 i))

-- the place of a hop that was found, and one past all places for a hop that was not
abbrev pub no_place : ℕ
no_place = most_hops

abbrev pub place_of : Result ℕ ℕ → ℕ
place_of (Ok p) = p
place_of (Err p) = no_place

-- where graph 2 has it
unfoldable pub image_of : List ℕ → List ℕ → List ℕ → ℕ → ℕ
image_of h1 h2 m i = place_of (placed h2 (mapped_hop h1 m i))

-- the table of these places, one for each hop of graph 1
unfoldable pub Imaged : List ℕ → List ℕ → List ℕ → List ℕ → Type 0
Imaged h1 h2 m images = (i : ℕ) → i < count h1 → get_or images i 0 ≡ image_of h1 h2 m i
