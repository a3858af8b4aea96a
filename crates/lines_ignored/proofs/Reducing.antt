-- Reducing looks at no line but to hand lines on: of graphs that differ in lines alone the map, the
-- short shape and what reduce returns are the same, and the short hops differ in lines alone.
-- Assumes nothing.
use Prim.Native.Nat.{ℕ, zero, suc}
use mathlib.Core.Path.{◌≡◌, refl}
use mathlib.Core.Bool.{cond, not, ◌&&◌}
use mathlib.Core.List.{List}
use lib.ListN.{length}
use lib.Dec.{eqb}
use Rattle.base_bounded.specs.Quantifiers.{any, least, tally, tabulate}
use Rattle.graph.specs.Hops.{count, Alike, flat}
use Rattle.graph.specs.declared.Shape.{Shape}
use Rattle.base_fixpoint.specs.Pairs.{Pairs}
use Rattle.reduce_representatives.specs.Representative.{marked_from, is_normal, next_state, after_steps, rep_of, new_of, map_of}
use Rattle.reduce_short_graph.specs.Short.{image, short_up_to, short_hops, short_shape, map_list}
use Rattle.reduce_entry.specs.Reduce.{reduced_map, reduced_hops, reduced_shape, reduce_answer, reduce_of, map_output}
use Rattle.lines_ignored.specs.DifferInLines.{DifferInLines}
use Rattle.lines_ignored.proofs.Checks.{count_ignores_lines, from_ignores_lines, label_ignores_lines, to_ignores_lines, check_ignores_lines}
use Rattle.lines_ignored.proofs.Walks.{ringless_ignores_lines}
use Rattle.lines_ignored.proofs.Marking.{marked_ignores_lines}
use Rattle.lines_ignored.proofs.Paired.{Paired, paired_length, paired_flat, paired_collected}

-- the representatives along one set of hops, and their new numbers
module _ {hs hs' : List ℕ} (un : DifferInLines hs hs') {u u' : Pairs} (e : u ≡ u') where
  leaving_same : marked_from hs u ≡ marked_from hs' u'
  unfolding marked_from
  leaving_same = λ d. λ (s i : ℕ). eqb (from_ignores_lines un i d) s && (eqb (label_ignores_lines un i d) 0 && e d (from_ignores_lines un i d) (to_ignores_lines un i d))

  resting_same : is_normal hs u ≡ is_normal hs' u'
  unfolding is_normal
  resting_same = λ d. λ (s : ℕ). not (any (count_ignores_lines un d) (leaving_same d s))

  onward_same : (s : ℕ) → next_state hs u s ≡ next_state hs' u' s
  unfolding next_state
  onward_same s = λ d. cond (resting_same d s) s (to_ignores_lines un (least (count_ignores_lines un d) (leaving_same d s)) d)

  followed_same : (k s : ℕ) → after_steps hs u k s ≡ after_steps hs' u' k s
  unfolding after_steps
  followed_same zero s = refl
  followed_same (suc k) s = λ d. followed_same k (onward_same s d) d

  new_same : new_of hs u ≡ new_of hs' u'
  unfolding new_of
  new_same = λ d. λ (r : ℕ). tally r (resting_same d)

  map_same : (sh : Shape) → map_of sh hs u ≡ map_of sh hs' u'
  unfolding map_of rep_of
  map_same sh = λ d. λ (s : ℕ). new_same d (followed_same sh.states s d)

  list_same : (sh : Shape) → map_list sh hs u ≡ map_list sh hs' u'
  unfolding map_list
  list_same sh = λ d. tabulate sh.states (map_same sh d)

  shape_same : (sh : Shape) → short_shape sh hs u ≡ short_shape sh hs' u'
  unfolding short_shape
  shape_same sh = rw (resting_same, map_same sh)

  -- what the hop at a place becomes is alike
  image_alike : (sh : Shape) (i : ℕ) → Alike (image sh hs u i) (image sh hs' u' i)
  image_alike sh i = record {
    same_from = λ d. new_same d (from_ignores_lines un i d);
    same_label = label_ignores_lines un i;
    same_to = λ d. map_same sh d (to_ignores_lines un i d);
  }

module _ {hs hs' : List ℕ} (un : DifferInLines hs hs') (sh : Shape) where
  paired_short : {u u' : Pairs} → u ≡ u' → Paired (short_hops sh hs u) (short_hops sh hs' u')
  unfolding short_hops short_up_to
  paired_short {u} {u'} e = rw (← count_ignores_lines un) (paired_collected (λ i. λ d. resting_same un e d (from_ignores_lines un i d)) (image_alike un e sh) (count hs))

  module _ (k : ℕ) where
    pub reduced_map_ignores_lines : reduced_map sh hs k ≡ reduced_map sh hs' k
    reduced_map_ignores_lines = list_same un (marked_ignores_lines un sh k) sh

    pub reduced_shape_ignores_lines : reduced_shape sh hs k ≡ reduced_shape sh hs' k
    reduced_shape_ignores_lines = shape_same un (marked_ignores_lines un sh k) sh

    -- the short hops differ in lines alone
    pub reduced_hops_differ_in_lines : DifferInLines (flat (reduced_hops sh hs k)) (flat (reduced_hops sh hs' k))
    reduced_hops_differ_in_lines = paired_flat _ _ (paired_short (marked_ignores_lines un sh k))

    -- what the entry answers, returns and leaves as the map
    module _ (map_capacity short_capacity : ℕ) where
      pub answer_ignores_lines : reduce_answer sh hs k map_capacity short_capacity ≡ reduce_answer sh hs' k map_capacity short_capacity
      unfolding reduce_answer
      answer_ignores_lines = rw (check_ignores_lines un sh, ringless_ignores_lines un sh, un.as_long)

      pub reduce_ignores_lines : reduce_of sh hs k map_capacity short_capacity ≡ reduce_of sh hs' k map_capacity short_capacity
      unfolding reduce_of
      reduce_ignores_lines = rw (answer_ignores_lines, reduced_shape_ignores_lines, paired_length _ _ (paired_short (marked_ignores_lines un sh k)))

    pub map_output_ignores_lines : (map short : List ℕ) → map_output sh hs k map short ≡ map_output sh hs' k map short
    unfolding map_output
    map_output_ignores_lines map short = rw (answer_ignores_lines (length map) (length short), reduced_map_ignores_lines)
