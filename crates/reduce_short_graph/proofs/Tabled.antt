-- What the map and the short hops by the tables are, in the words of the definitions. Assumes
-- nothing.
use Prim.Native.Nat.{ℕ, zero, suc, ◌<◌, ◌≤◌}
use mathlib.Core.Path.{◌≡◌, refl, sym, ◌∙◌}
use mathlib.Core.Bool.{true}
use mathlib.Core.List.{List}
use native.Mathlib.Omega.{arith}
use lib.ListN.{get_or}
use Rattle.base_bounded.specs.Quantifiers.{tabulate}
use Rattle.graph.specs.Hops.{count, from, label, to, line_at, lined_hop}
use Rattle.graph_check.specs.Check.{Admitted}
use Rattle.graph.specs.declared.Shape.{Shape}
use Rattle.base_fixpoint.specs.Pairs.{Pairs}
use Rattle.reduce_insertion.proofs.Same.{collected_below}
use Rattle.reduce_representatives.specs.Internal.Representative.{Terminating}
use Rattle.reduce_representatives.specs.Representative.{is_normal, map_of}
use Rattle.reduce_representatives.specs.Internal.Tables.{NextTable, NewNumbers, is_fixed, new_number}
use Rattle.reduce_representatives.proofs.Mapped.{map_own}
use Rattle.reduce_representatives.proofs.Tabled.{states_fit, tabled_stays, tabled_map}
use Rattle.reduce_short_graph.specs.Short.{image, short_up_to, map_list}
use Rattle.reduce_sorted_images.specs.Internal.Ascending.{imaged}
use Rattle.reduce_short_graph.specs.Internal.Tables.{short_by}

listed_same : (f g : ℕ → ℕ) (n : ℕ) → ((i : ℕ) → i < n → f i ≡ g i) → tabulate n f ≡ tabulate n g
unfolding tabulate
listed_same f g zero h = refl
listed_same f g (suc n) h = rw (h n (omega arith), listed_same f g n (λ i l. h i (omega arith)))

module _ {sh : Shape} {hs : List ℕ} {u : Pairs} (adm : Admitted sh hs) (sett : Terminating sh hs u) (next : List ℕ) (on : NextTable hs u next) where
  module _ (news : List ℕ) (fill : NewNumbers next news) where
    pub tabled_list : tabulate sh.states (new_number next news sh.states) ≡ map_list sh hs u
    unfolding map_list
    tabled_list = listed_same (new_number next news sh.states) (map_of sh hs u) sh.states (tabled_map adm sett next on news fill)

  module _ (map : List ℕ) (mapped : (s : ℕ) → s < sh.states → get_or map s 0 ≡ map_of sh hs u s) where
    tabled_image : (i : ℕ) → i < count hs → is_normal hs u (from hs i) ≡ true → imaged hs map i ≡ image sh hs u i
    tabled_image i l e = λ d. lined_hop
        ((mapped (from hs i) (adm.range.from_in i l) ∙ map_own sh hs u (from hs i) e) d)
        (label hs i)
        (mapped (to hs i) (adm.range.to_in i l) d)
        (line_at hs i)

    pub tabled_short : (n : ℕ) → n ≤ count hs → short_by hs next map n ≡ short_up_to sh hs u n
    unfolding short_by short_up_to
    tabled_short n l = collected_below n (λ i k. stays_is k) (λ i k e. tabled_image i (omega arith) (sym (stays_is k) ∙ e)) where
      stays_is : {i : ℕ} → i < n → is_fixed next (from hs i) ≡ is_normal hs u (from hs i)
      stays_is {i} k = tabled_stays adm sett next on (from hs i) (omega (arith, adm.range.from_in i (omega arith), states_fit adm sett next on))
