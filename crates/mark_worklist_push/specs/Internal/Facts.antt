-- That the facts of a round's graph are propositions, so that a value may hold them as ghost
-- fields. Assumes nothing.
use Rattle.std.specs.Prelude.{ℕ, Bool, List}
use Rattle.std.proofs.Props.{props}
use Rattle.graph_predecessors.specs.Internal.PredecessorIndex.{PredecessorStarts, PredecessorPlaces}
use Rattle.mark_worklist_push.specs.Internal.Queue.{Tables, Leaving}

pub tables_prop : (hs bs ps : List ℕ) → IsProp (Tables hs bs ps)
unfolding PredecessorStarts PredecessorPlaces
tables_prop hs bs ps = hlevel props

pub leaving_prop : (hs ms : List ℕ) (ls : List Bool) → IsProp (Leaving hs ms ls)
unfolding Leaving
leaving_prop hs ms ls = hlevel props
