-- What an accepted `shrink` left in its outputs, whatever they held before, passes the audit: the
-- front of the map output, one element a state, and the front of the hops' output, as long as the
-- returned hop count takes, with the returned counts and initial state. Assumes nothing.
use Prim.Native.Nat.{ℕ, ◌<◌}
use mathlib.Core.Path.{◌≡◌, refl, sym, ap, ◌∙◌}
use mathlib.Core.List.{List}
use lib.ListN.{length, take}
use lib.Seq.{take_at}
use Rattle.graph.specs.Hops.{count, between}
use Rattle.graph.specs.declared.Shape.{Shape}
use Rattle.reduce_representatives.specs.Reducible.{Reducible}
use Rattle.reduce_entry.specs.Reduce.{reduce_answer}
use Rattle.reduce_entry.proofs.Answering.{reduce_reducible}
use Rattle.audit_entry.specs.Audit.{audit_of, faultless}
use Rattle.audit_entry.proofs.Answering.{faultless_iff}
use Rattle.shrink_iterate.specs.Iterate.{Stage, last_stage}
use Rattle.shrink_iterate.proofs.Last.{last_staged, last_audit_zero, last_reductions_lt_states}
use Rattle.shrink_entry.specs.Shrink.{shrink_of, shrink_map_output, shrink_hops_output}
use Rattle.shrink_entry.specs.declared.Shrinking.{Shrinking}
use Rattle.shrink_entry.proofs.Accepting.{front_hops}
use Rattle.shrink_entry.proofs.Answering.{accepted_returns, accepted_map, accepted_short}

module _ (sh : Shape) (hs : List ℕ) (k : ℕ) (map short : List ℕ) (z : (reduce_answer sh hs k (length map) (length short)).number ≡ 0) where
  abbrev last : Stage
  last = last_stage k sh hs

  abbrev returned : Shrinking
  returned = shrink_of sh hs k (length map) (length short)

  red : Reducible sh hs
  red = reduce_reducible sh hs k (length map) (length short) z

  shape_is : returned.shape ≡ last.shape
  shape_is = ap (λ (r : Shrinking). r.shape) (sym (accepted_returns sh hs k map short refl z))

  hops_are : returned.hops ≡ count last.hops
  hops_are = ap (λ (r : Shrinking). r.hops) (sym (accepted_returns sh hs k map short refl z))

  front_map : take sh.states (shrink_map_output sh hs k map short) ≡ last.map
  front_map =
      ap (take sh.states) (sym (accepted_map sh hs k map short refl z refl)) ∙
      take_at last.map _ sh.states ((faultless_iff sh last.shape hs last.hops last.map).0 (last_audit_zero k red)).0.map.one_a_state

  front_short : between (shrink_hops_output sh hs k map short) 0 returned.hops ≡ last.hops
  front_short = front_hops (last_staged k red).reducible.admitted short hops_are (sym (accepted_short sh hs k map short refl z refl))

  -- "Hence the returned map has none": the audit accepts, and finds no fault
  pub shrink_audit_zero : audit_of sh (shrink_of sh hs k (length map) (length short)).shape hs
      (between (shrink_hops_output sh hs k map short) 0 (shrink_of sh hs k (length map) (length short)).hops) (take sh.states (shrink_map_output sh hs k map short)) ≡ faultless
  shrink_audit_zero = rw (shape_is, front_short, front_map) (last_audit_zero k red)

  -- "and the number of reductions is below the first state count"
  pub reductions_lt_states : (shrink_of sh hs k (length map) (length short)).reductions < sh.states
  reductions_lt_states = rw (ap (λ (r : Shrinking). r.reductions) (sym (accepted_returns sh hs k map short refl z))) (last_reductions_lt_states k red)
