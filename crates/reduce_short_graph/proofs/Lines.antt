-- "A short hop carries the smallest nonzero line among the hops it comes from, else 0": which line,
-- and that it is one of theirs. Assumes nothing.
use Prim.Native.Nat.{ℕ, ◌<◌}
use mathlib.Core.Path.{◌≡◌, sym, ap, ◌∙◌, subst}
use mathlib.Core.List.{List}
use Rattle.graph.specs.Hops.{count, from, line_at, hop_at, flat}
use Rattle.graph.specs.declared.Hop.{Hop}
use Rattle.graph.specs.declared.Shape.{Shape}
use Rattle.graph.proofs.Places.{count_flat, flat_at}
use Rattle.base_fixpoint.specs.Pairs.{Pairs}
use Rattle.reduce_smallest_line.specs.Internal.Lines.{smallest_line}
use Rattle.reduce_smallest_line.specs.Lines.{Smallest}
use Rattle.reduce_smallest_line.proofs.Lines.{smallest_is}
use Rattle.reduce_insertion.proofs.Lined.{collected_line}
use Rattle.reduce_representatives.specs.Representative.{is_normal}
use Rattle.reduce_short_graph.specs.Short.{image, short_up_to, short_hops, comes_from}

module _ (sh : Shape) (hs : List ℕ) (u : Pairs) {i : ℕ} (l : i < count (flat (short_hops sh hs u))) where
  abbrev short_hop : Hop
  short_hop = hop_at (flat (short_hops sh hs u)) i

  -- the line of the short hop at place i, as a definition that is computed
  pub short_line : line_at (flat (short_hops sh hs u)) i ≡ smallest_line (comes_from sh hs u short_hop) (line_at hs) (count hs)
  unfolding short_hops short_up_to comes_from
  short_line =
      ap (λ (h : Hop). h.line) (flat_at (short_hops sh hs u) i) ∙
      rw (flat_at (short_hops sh hs u) i)
      (collected_line (λ (j : ℕ). is_normal hs u (from hs j)) (image sh hs u) (count hs) (rw (count_flat (short_hops sh hs u)) at l))

  -- what that means: the line is one of those of the representatives' own hops whose image it is,
  -- and none of theirs that is not 0 is smaller
  pub short_line_smallest : Smallest (comes_from sh hs u (hop_at (flat (short_hops sh hs u)) i)) (line_at hs) (count hs) (line_at (flat (short_hops sh hs u)) i)
  short_line_smallest =
      subst (λ (x : ℕ). Smallest (comes_from sh hs u short_hop) (line_at hs) (count hs) x) (sym short_line) (smallest_is (comes_from sh hs u short_hop) (line_at hs) (count hs))
