-- The short graph (the quotient by the representation map) along a set u of silent hops: "for each
-- hop r, a, t of a representative r, the hop new(r), a, map(t), once, in ascending order". Assumes
-- nothing: these are definitions.
use Rattle.std.specs.Prelude.{ℕ, ◌≡◌, Bool, true, ◌&&◌, List}
use Rattle.base_bounded.specs.Quantifiers.{tally, tabulate}
use Rattle.graph.specs.Hops.{count, from, lined_hop, hop_at, same, has}
use Rattle.graph.specs.declared.Hop.{Hop}
use Rattle.graph.specs.declared.Shape.{Shape}
use Rattle.base_fixpoint.specs.Pairs.{Pairs}
use Rattle.reduce_insertion.specs.Insertion.{collected}
use Rattle.reduce_representatives.specs.Representative.{is_normal, new_of, map_of}

-- what a hop becomes, if it leaves a representative; it keeps its line
abbrev pub becomes : Shape → List ℕ → Pairs → Hop → Hop
becomes sh hs u h = lined_hop (new_of hs u h.from) h.label (map_of sh hs u h.to) h.line

-- what the hop at place i becomes
abbrev pub image : Shape → List ℕ → Pairs → ℕ → Hop
image sh hs u i = becomes sh hs u (hop_at hs i)

-- the images of the representatives' hops among the first n
unfoldable pub short_up_to : Shape → List ℕ → Pairs → ℕ → List Hop
short_up_to sh hs u = collected (λ (i : ℕ). is_normal hs u (from hs i)) (image sh hs u)

-- the short hops: the images of all the representatives' hops.
-- In the field: the transitions of the quotient by a representation map.
unfoldable pub short_hops : Shape → List ℕ → Pairs → List Hop
short_hops sh hs u = short_up_to sh hs u (count hs)

-- What a hop n, a, m of the short graph is to be: "for each hop r, a, t of a representative r, the
-- hop new(r), a, map(t)"
abbrev pub ShortHop : Shape → List ℕ → Pairs → ℕ → ℕ → ℕ → Type 0
ShortHop sh hs u n a m =
    (r : ℕ) × (t : ℕ) × (is_normal hs u r ≡ true) × (has hs r a t ≡ true) × (new_of hs u r ≡ n) × (map_of sh hs u t ≡ m)

-- the hop at place i is among "the hops it comes from", of a hop h of the short graph: it leaves a
-- representative, and what it becomes is like h
unfoldable pub comes_from : Shape → List ℕ → Pairs → Hop → ℕ → Bool
comes_from sh hs u h i = is_normal hs u (from hs i) && same (image sh hs u i) h

-- "Its initial state is the map of the old one, its label count is the old one."
unfoldable pub short_shape : Shape → List ℕ → Pairs → Shape
short_shape sh hs u = record { states = tally sh.states (is_normal hs u); labels = sh.labels; initial = map_of sh hs u sh.initial }

-- the map as a list, "one element a state"
unfoldable pub map_list : Shape → List ℕ → Pairs → List ℕ
map_list sh hs u = tabulate sh.states (map_of sh hs u)
