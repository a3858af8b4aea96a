-- Silent hops: a silent hop of the graph is the hop at some place, and the silent hops are a chosen
-- set. Assumes nothing.
use Prim.Native.Nat.{ℕ, ◌<◌}
use mathlib.Core.Path.{◌≡◌, refl}
use mathlib.Core.Bool.{true}
use mathlib.Core.List.{List}
use borrow.Author.Tests.{eq-eqb, eqb-true}
use Rattle.graph.specs.Hops.{count, to, labelled}
use Rattle.graph_check.specs.Check.{InRange}
use Rattle.graph.specs.declared.Shape.{Shape}
use Rattle.graph.proofs.Places.{has_place, place_has, labelled_yes, labelled_parts}
use Rattle.walk_reach.specs.Internal.Reach.{ChosenOf}
use Rattle.walk_reach.proofs.Leads.{chosen_start, chosen_end}
use Rattle.walk_silent.specs.Silent.{SilentOf, silent_at}

module _ (hs : List ℕ) where
  -- the silent hop at place i
  pub silent_here : (s i : ℕ) → i < count hs → labelled hs s 0 i ≡ true → SilentOf hs s (to hs i)
  silent_here s i l e =
      let (f, a) = labelled_parts hs s 0 i e in
      place_has hs s 0 (to hs i) (record { at = i; within = l; from_is = f; label_is = a; to_is = refl })

  -- the place of a silent hop
  pub silent_place_lem : (s t : ℕ) → SilentOf hs s t → (i : ℕ) × (i < count hs) × (labelled hs s 0 i ≡ true) × (to hs i ≡ t)
  silent_place_lem s t h =
      let p = has_place hs s 0 t h in
      (p.at, p.within, labelled_yes hs s 0 p.at p.from_is p.label_is, p.to_is)

  -- the silent hops as a chosen set
  pub silent_chosen : (s t : ℕ) → SilentOf hs s t → ChosenOf hs (silent_at hs) s t
  silent_chosen s t h =
      let p = has_place hs s 0 t h in
      record { at = p.at; within = p.within; from_is = p.from_is; chosen = eq-eqb _ _ p.label_is; to_is = p.to_is }

  pub chosen_silent : (s t : ℕ) → ChosenOf hs (silent_at hs) s t → SilentOf hs s t
  chosen_silent s t p =
      place_has hs s 0 t (record { at = p.at; within = p.within; from_is = p.from_is; label_is = eqb-true _ _ p.chosen; to_is = p.to_is })

-- both ends of a silent hop are states
module _ {sh : Shape} {hs : List ℕ} (ranged : InRange sh hs) (s t : ℕ) (h : SilentOf hs s t) where
  pub silent_start : s < sh.states
  silent_start = chosen_start ranged (silent_at hs) (silent_chosen hs s t h)

  pub silent_end : t < sh.states
  silent_end = chosen_end ranged (silent_at hs) (silent_chosen hs s t h)
