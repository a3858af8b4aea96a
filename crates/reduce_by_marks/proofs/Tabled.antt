-- What `reduce_marked` leaves and returns by its tables, in the words of the definitions. Assumes
-- nothing.
use Prim.Native.Nat.{ℕ, ◌<◌, ◌≤◌}
use mathlib.Core.Path.{◌≡◌, ap, ◌∙◌}
use mathlib.Core.List.{List, ◌++◌}
use native.Mathlib.Omega.{arith}
use lib.ListN.{length, get_or, drop}
use Rattle.base_bounded.specs.Quantifiers.{tabulate}
use Rattle.base_outputs.specs.Output.{on_front}
use Rattle.graph.specs.Hops.{count, from, to, flat}
use Rattle.graph.specs.Internal.Hops.{over}
use Rattle.graph.specs.Map.{mapped}
use Rattle.graph.specs.Answers.{most_states}
use Rattle.graph.specs.declared.Hop.{Hop}
use Rattle.graph.specs.declared.Shape.{Shape}
use Rattle.base_bounded.proofs.Quantifiers.{tally_within}
use Rattle.graph_check.specs.Check.{Admitted}
use Rattle.base_fixpoint.specs.Pairs.{Pairs}
use Rattle.reduce_representatives.specs.Internal.Representative.{Terminating}
use Rattle.reduce_representatives.specs.Representative.{is_normal, map_of}
use Rattle.reduce_representatives.specs.Internal.Tables.{FromIn, NextTable, NewNumbers, new_number}
use Rattle.reduce_representatives.proofs.Mapped.{map_in}
use Rattle.reduce_representatives.proofs.Tabled.{tabled_new}
use Rattle.reduce_short_graph.specs.Short.{short_hops, short_shape, map_list}
use Rattle.reduce_short_graph.specs.Internal.Tables.{all_short, AllImaged}
use Rattle.reduce_short_graph.proofs.Tabled.{tabled_list, tabled_short}
use Rattle.reduce_by_marks.specs.Internal.ByMarks.{short_graph, shape_by}
use Rattle.reduce_by_marks.specs.declared.ShortGraph.{ShortGraph}
use Rattle.reduce_by_marks.proofs.Along.{map_at}

-- the states that hops leave have a place in a table of the states that can be
pub tabled_from : {sh : Shape} {hs : List ℕ} → Admitted sh hs → FromIn hs
unfolding FromIn
tabled_from adm i l = omega (arith, adm.range.from_in i l, adm.states_most)

-- the table of next states, the new numbers, the map from old to new and the short hops are at hand
module _ {sh : Shape} {hs : List ℕ} {u : Pairs} (adm : Admitted sh hs) (sett : Terminating sh hs u) (next : List ℕ) (on : NextTable hs u next) (news : List ℕ)
    (fill : NewNumbers next news) (old : List ℕ) {map : List ℕ} (e : map ≡ on_front (tabulate sh.states (new_number next news sh.states)) old)
  where
    pub reduced_map_lem : map ≡ on_front (map_list sh hs u) old
    reduced_map_lem = e ∙ ap (λ (m : List ℕ). on_front m old) (tabled_list adm sett next on news fill)

    map_holds : (s : ℕ) → s < sh.states → get_or map s 0 ≡ map_of sh hs u s
    map_holds = map_at sh hs u old reduced_map_lem

    -- the map's numbers and the labels are numbers of states and labels that can be
    map_small : (s : ℕ) → s < sh.states → mapped map s < most_states
    map_small s l =
        omega (arith, map_holds s l, map_in sett adm.range s l, tally_within (is_normal hs u) sh.states, adm.states_most)

    -- and so every hop has an image, where the map has an entry for each state
    pub reduced_images : sh.states ≤ length map → AllImaged hs map
    unfolding AllImaged
    reduced_images capacity i l =
        record {
          inside = l;
          from_map = omega (arith, adm.range.from_in i l);
          to_map = omega (arith, adm.range.to_in i l);
          from_key = map_small (from hs i) (adm.range.from_in i l);
          label_key = omega (arith, adm.range.label_in i l, adm.labels_most);
          to_key = map_small (to hs i) (adm.range.to_in i l);
        }

    hops_are : all_short hs next map ≡ short_hops sh hs u
    unfolding short_hops
    hops_are = tabled_short adm sett next on map map_holds (count hs) (omega arith)

    pub reduced_short : (out : List ℕ) {short : List ℕ} → short ≡ over (all_short hs next map) out → short ≡ on_front (flat (short_hops sh hs u)) out
    unfolding over
    reduced_short out f = f ∙ ap (λ (xs : List Hop). flat xs ++ drop (length (flat xs)) out) hops_are

    pub reduced_returns : {made : Shape} {n : ℕ} → made ≡ shape_by sh news map → n ≡ length (all_short hs next map) →
        ◌≡◌ {A = ShortGraph} (record { shape = made; hops = n }) (short_graph sh hs u)
    unfolding short_shape
    reduced_returns {made} {n} q f = λ d. record { shape = (q ∙ shape) d; hops = (f ∙ ap length hops_are) d } where
      shape : shape_by sh news map ≡ short_shape sh hs u
      shape = λ d. record {
        states = tabled_new adm sett next on news fill sh.states adm.states_most d;
        labels = sh.labels;
        initial = map_holds sh.initial adm.initial_in d;
      }
