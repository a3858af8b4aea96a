-- Where marking with a set of hops has left its marks, these can be reduced along; and the map by
-- place. Assumes nothing.
use Prim.Native.Nat.{ℕ, ◌<◌, ◌≤◌}
use mathlib.Core.Path.{◌≡◌, ◌∙◌}
use mathlib.Core.List.{List}
use native.Mathlib.Omega.{arith}
use lib.ListN.{length, get_or, drop, get_or-append}
use Rattle.base_bounded.specs.Quantifiers.{tabulate}
use Rattle.base_bounded.proofs.Quantifiers.{length_tabulate, get_d_tabulate}
use Rattle.base_outputs.specs.Output.{on_front}
use Rattle.graph.specs.Hops.{count}
use Rattle.graph.specs.declared.Shape.{Shape}
use Rattle.base_fixpoint.specs.Pairs.{Pairs}
use Rattle.mark_confluence.specs.Marks.{marks_of}
use Rattle.mark_confluence.proofs.Marks.{marks_capacity, marks_silent}
use Rattle.reduce_representatives.specs.Representative.{map_of}
use Rattle.reduce_representatives.specs.Internal.Tables.{SilentMarks}
use Rattle.reduce_short_graph.specs.Short.{map_list}

-- the marks that marking with u leaves in ms: one a hop, and none at a visible hop
pub after_marks : (hs : List ℕ) (u : Pairs) (ms out : List ℕ) → ms ≡ on_front (marks_of hs u) out → count hs ≤ length out → SilentMarks hs ms
after_marks hs u ms out e l = record { capacity = omega (arith, marks_capacity hs u ms out e l); silent = marks_silent hs u ms out e }

-- a list that begins with the map along u has the map of each state at its place
pub map_at : (sh : Shape) (hs : List ℕ) (u : Pairs) (old : List ℕ) {map : List ℕ} → map ≡ on_front (map_list sh hs u) old → (s : ℕ) → s < sh.states → get_or map s 0 ≡ map_of sh hs u s
unfolding map_list
map_at sh hs u old e s l =
    rw e
    (get_or-append (tabulate sh.states (map_of sh hs u)) (drop (length (tabulate sh.states (map_of sh hs u))) old) 0 s (rw (length_tabulate (map_of sh hs u) sh.states) l) ∙ get_d_tabulate (map_of sh hs u) sh.states l)
