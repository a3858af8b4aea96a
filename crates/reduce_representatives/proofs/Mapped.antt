-- A representative is its own, so that its new number is its map; and the map of a state is below
-- how many representatives there are. Assumes nothing.
use Prim.Native.Nat.{ℕ, ◌<◌}
use mathlib.Core.Path.{◌≡◌, ap}
use mathlib.Core.Bool.{true}
use mathlib.Core.List.{List}
use Rattle.base_bounded.specs.Quantifiers.{tally}
use Rattle.graph_check.specs.Check.{InRange}
use Rattle.graph.specs.declared.Shape.{Shape}
use Rattle.base_fixpoint.specs.Pairs.{Pairs}
use Rattle.reduce_representatives.specs.Internal.Representative.{Terminating}
use Rattle.reduce_representatives.specs.Representative.{is_normal, new_of, rep_of, map_of}
use Rattle.reduce_representatives.proofs.NormalForm.{rests_next_state, after_steps_rest, after_steps_in, rep_is_normal}
use Rattle.reduce_representatives.proofs.Numbers.{new_over}

module _ (sh : Shape) (hs : List ℕ) (u : Pairs) (r : ℕ) (e : is_normal hs u r ≡ true) where
  -- a representative is its own
  pub rep_own : rep_of sh hs u r ≡ r
  unfolding rep_of
  rep_own = after_steps_rest hs u sh.states r (rests_next_state hs u r e)

  -- so its new number is its map
  pub map_own : map_of sh hs u r ≡ new_of hs u r
  unfolding map_of
  map_own = ap (new_of hs u) rep_own

pub map_in : {sh : Shape} {hs : List ℕ} {u : Pairs} → Terminating sh hs u → InRange sh hs → (s : ℕ) → s < sh.states →
    map_of sh hs u s < tally sh.states (is_normal hs u)
unfolding map_of rep_of
map_in {sh} {hs} {u} sett ranged s l = new_over hs u _ sh.states (rep_is_normal sett s) (after_steps_in hs u ranged sh.states s l)
