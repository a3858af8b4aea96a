-- What `reduce` makes of a graph without rings passes the audit, in any sense: the map and the
-- short graph are admitted, and the fault count is 0. So the map is a branching bisimulation that
-- joins the initial states. Assumes nothing.
use Prim.Native.Nat.{ℕ, ◌<◌}
use mathlib.Core.Path.{◌≡◌, refl}
use mathlib.Core.List.{List}
use Rattle.graph.specs.Hops.{flat}
use Rattle.graph.specs.declared.Shape.{Shape}
use Rattle.base_bounded.proofs.Quantifiers.{length_tabulate, get_d_tabulate}
use Rattle.reduce_representatives.specs.Reducible.{Reducible}
use Rattle.lts.specs.Closes.{Sense}
use Rattle.base_fixpoint.specs.Pairs.{Pairs}
use Rattle.mark_senses.specs.Senses.{marked_in}
use Rattle.reduce_representatives.specs.Representative.{map_of}
use Rattle.reduce_short_graph.specs.Short.{short_hops, short_shape, map_list}
use Rattle.reduce_entry.proofs.Reduced.{map_inside, short_admitted, short_reduces}
use Rattle.graph.specs.Map.{mapped}
use Rattle.audit_faults.specs.Faults.{faults_of}
use Rattle.audit_entry.specs.Bisimulation.{BranchingBisimulation, MapRelation, JoinsInitial}
use Rattle.audit_entry.specs.Audit.{audit_of, faultless}
use Rattle.audit_entry.proofs.Meaning.{audit_zero_iff, reduces_zero}
use Rattle.audit_admitted.specs.Admitted.{Audited}
use Rattle.audit_entry.proofs.Answering.{faultless_iff}

module _ {sh : Shape} {hs : List ℕ} (red : Reducible sh hs) (sense : Sense) where
  abbrev u : Pairs
  u = marked_in sense sh hs

  list_maps : (s : ℕ) → s < sh.states → mapped (map_list sh hs u) s ≡ map_of sh hs u s
  unfolding map_list
  list_maps s l = get_d_tabulate (map_of sh hs u) sh.states l

  reduced_audited : Audited sh (short_shape sh hs u) hs (flat (short_hops sh hs u)) (map_list sh hs u)
  unfolding map_list short_shape
  reduced_audited = record {
    first = red.admitted;
    second = short_admitted red sense;
    labels = refl;
    map = record { one_a_state = length_tabulate (map_of sh hs u) sh.states; entries_in = λ s l. rw (list_maps s l) (map_inside red sense s l) };
  }

  -- the audit's count of what `reduce` makes is 0
  pub short_faults_zero : faults_of sh (short_shape sh hs u) hs (flat (short_hops sh hs u)) (map_list sh hs u) ≡ 0
  unfolding short_shape
  short_faults_zero =
      reduces_zero sh (short_shape sh hs u) hs (flat (short_hops sh hs u)) (map_list sh hs u) red.admitted.range (short_reduces red sense) list_maps joins where
        joins : mapped (map_list sh hs u) sh.initial ≡ (short_shape sh hs u).initial
        joins = list_maps sh.initial red.admitted.initial_in

  -- the audit accepts what `reduce` makes, and finds no fault
  pub short_audit_zero : audit_of sh (short_shape sh hs u) hs (flat (short_hops sh hs u)) (map_list sh hs u) ≡ faultless
  short_audit_zero = (faultless_iff sh (short_shape sh hs u) hs (flat (short_hops sh hs u)) (map_list sh hs u)).1 (reduced_audited, short_faults_zero)

  -- so the map is one of Definition 2.4
  pub reduce_bisimulation :
      BranchingBisimulation sh (short_shape sh hs u) hs (flat (short_hops sh hs u)) (MapRelation sh (map_list sh hs u)) ×
      JoinsInitial sh (short_shape sh hs u) (MapRelation sh (map_list sh hs u))
  reduce_bisimulation =
      (audit_zero_iff sh (short_shape sh hs u) hs (flat (short_hops sh hs u)) (map_list sh hs u) reduced_audited.first reduced_audited.second reduced_audited.map).0 short_faults_zero
