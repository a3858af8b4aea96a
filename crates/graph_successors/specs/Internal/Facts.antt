-- That the facts of a hop list and its table of first places are propositions, so that a value may
-- hold them as ghost fields. Assumes nothing.
use Rattle.std.specs.Prelude.{ℕ, List}
use Rattle.std.proofs.Props.{props}
use Rattle.graph.specs.Order.{Ascending}
use Rattle.graph_successors.specs.Internal.SuccessorIndex.{SuccessorIndex, Indexable}

pub indexable_prop : (hs : List ℕ) → IsProp (Indexable hs)
unfolding Ascending
indexable_prop hs = hlevel props

pub successor_index_prop : (hs st : List ℕ) → IsProp (SuccessorIndex hs st)
unfolding SuccessorIndex
successor_index_prop hs st = hlevel props
