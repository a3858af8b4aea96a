-- "Repeat, under a chosen sense, until no hop is marked, and return the last graph, one map from
-- first states to last, and the number of reductions that marked something." (document 02, wish 13)
-- k is the sense's number. Assumes nothing: these are definitions.
use Rattle.std.specs.Prelude.{ℕ, zero, suc, Bool, cond, ◌&&◌, List}
use Rattle.base_bounded.specs.Quantifiers.{any}
use Rattle.graph.specs.Hops.{hop_at, count, same, flat}
use Rattle.graph.specs.declared.Hop.{Hop}
use Rattle.graph.specs.declared.Shape.{Shape}
use Rattle.base_fixpoint.specs.Pairs.{Pairs, In}
use Rattle.mark_senses.specs.Senses.{in_set_at, marked_by}
use Rattle.reduce_representatives.specs.Representative.{is_normal}
use Rattle.reduce_short_graph.specs.Short.{becomes}
use Rattle.reduce_entry.specs.Reduce.{reduced_map, reduced_hops, reduced_shape}
use Rattle.shrink_compose.specs.Composed.{composed, identity_map}

-- how far a repetition has come: a graph, the map to it from the first states, and how many
-- reductions marked something on the way
pub record Stage : Type 0 where
  pub shape : Shape
  pub hops : List ℕ
  pub map : List ℕ
  pub reductions : ℕ

-- before any reduction: the graph itself, and each state's own number
abbrev pub first_stage : Shape → List ℕ → Stage
first_stage sh hs = record { shape = sh; hops = hs; map = identity_map sh.states; reductions = 0 }

-- the marked set of the stage's graph
abbrev pub stage_marked : ℕ → Stage → Pairs
stage_marked k g = marked_by k g.shape g.hops

-- some hop of the graph is marked
unfoldable pub some_marked : ℕ → Shape → List ℕ → Bool
some_marked k sh hs = any (count hs) (in_set_at hs (marked_by k sh hs))

abbrev pub marks_some : ℕ → Stage → Bool
marks_some k g = some_marked k g.shape g.hops

-- one reduction more: the short graph, its map behind the one so far, and one more counted
abbrev pub next_stage : ℕ → Stage → Stage
next_stage k g = record {
  shape = reduced_shape g.shape g.hops k;
  hops = flat (reduced_hops g.shape g.hops k);
  map = composed g.map (reduced_map g.shape g.hops k);
  reductions = suc g.reductions;
}

-- "until no hop is marked", by at most n reductions
unfoldable pub iterated : ℕ → ℕ → Stage → Stage
iterated k zero g = g
iterated k (suc n) g = cond (marks_some k g) (iterated k n (next_stage k g)) g

-- the last stage that a stage leads to: each reduction that marks something leaves fewer states, so
-- that as many as there are states are enough
unfoldable pub last_of : ℕ → Stage → Stage
last_of k g = iterated k g.shape.states g

-- the last stage of a graph.
-- In the field: reduction iterated to a fixpoint.
abbrev pub last_stage : ℕ → Shape → List ℕ → Stage
last_stage k sh hs = last_of k (first_stage sh hs)

-- the hop x of a stage's graph is one that the hop h of the last graph comes from, through at most
-- n reductions: at each it leaves a representative, and what it has become by all of them is like h
unfoldable pub comes_through : ℕ → ℕ → Stage → Hop → Hop → Bool
comes_through k zero g h x = same x h
comes_through k (suc n) g h x =
    cond (marks_some k g) (is_normal g.hops (stage_marked k g) x.from && comes_through k n (next_stage k g) h (becomes g.shape g.hops (stage_marked k g) x))
    (same x h)

-- the hop at place i of the first graph is one that the hop at place p of the last comes from
abbrev pub last_comes_from : ℕ → Shape → List ℕ → ℕ → ℕ → Bool
last_comes_from k sh hs p i = comes_through k sh.states (first_stage sh hs) (hop_at (last_stage k sh hs).hops p) (hop_at hs i)

-- what "until no hop is marked" means, with no bound: h is where the repetition from g ends
pub data EndsIn (k : ℕ) : Stage → Stage → Type 0 where
  still : {g : Stage} → ((s t : ℕ) → In (stage_marked k g) s t → ⊥) → EndsIn k g g
  again : {g h : Stage} (s t : ℕ) → In (stage_marked k g) s t → EndsIn k (next_stage k g) h → EndsIn k g h
