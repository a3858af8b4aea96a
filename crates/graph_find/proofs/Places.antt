-- The place that is searched for, as a count: in an ascending list it is the number of hops that
-- come before the hop. Assumes nothing.
use Prim.Native.Nat.{ℕ}
use mathlib.Core.Path.{◌≡◌, sym, ◌∙◌}
use mathlib.Core.List.{List}
use Rattle.graph.specs.Hops.{count, hop_of}
use Rattle.graph.specs.Order.{Ascending}
use Rattle.graph.specs.Search.{lower}
use Rattle.base_bounded.proofs.Quantifiers.{tally_same}
use Rattle.base_bounded.proofs.Tallies.{tally_below}
use Rattle.graph.proofs.Lookup.{lower_within, lower_law}
use Rattle.graph_find.specs.Find.{hops_before}

pub lower_counts : (hs : List ℕ) → Ascending hs → (s a t : ℕ) → lower hs (hop_of s a t) ≡ hops_before hs s a t
unfolding hops_before
lower_counts hs up s a t =
    sym (tally_below (count hs) (lower_within hs (hop_of s a t))) ∙ tally_same _ _ (count hs) (λ i l. lower_law hs (hop_of s a t) up l)
