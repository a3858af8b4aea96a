-- Repeated reduction looks at no line but to hand lines on: from graphs that differ in lines alone
-- it goes by the same steps to graphs that differ in lines alone, with the same map and number of
-- reductions. Assumes nothing.
use Prim.Native.Nat.{ℕ, zero, suc}
use mathlib.Core.Path.{◌≡◌, refl, sym, ap, ◌∙◌, subst}
use mathlib.Core.Bool.{Bool, true, false, cond, ◌&&◌}
use mathlib.Core.List.{List}
use lib.ListN.{length}
use lib.Dec.{eqb}
use Rattle.base_bounded.specs.Quantifiers.{any}
use Rattle.graph.specs.Hops.{flat}
use Rattle.graph.specs.declared.Shape.{Shape}
use Rattle.mark_senses.specs.Senses.{in_set_at}
use Rattle.reduce_entry.specs.Reduce.{reduced_map, reduced_shape, reduced_hops}
use Rattle.shrink_compose.specs.Composed.{composed}
use Rattle.shrink_iterate.specs.Iterate.{Stage, first_stage, next_stage, some_marked, marks_some, iterated, last_of, last_stage}
use Rattle.shrink_entry.specs.Shrink.{shrink_of, shrink_map_output}
use Rattle.lines_ignored.specs.DifferInLines.{DifferInLines}
use Rattle.lines_ignored.proofs.Checks.{count_ignores_lines, from_ignores_lines, label_ignores_lines, to_ignores_lines}
use Rattle.lines_ignored.proofs.Marking.{marked_ignores_lines}
use Rattle.lines_ignored.proofs.Reducing.{reduced_map_ignores_lines, reduced_shape_ignores_lines, reduced_hops_differ_in_lines, answer_ignores_lines}

some_ignores_lines : {hs hs' : List ℕ} → DifferInLines hs hs' → (k : ℕ) (sh : Shape) → some_marked k sh hs ≡ some_marked k sh hs'
unfolding some_marked in_set_at
some_ignores_lines un k sh = λ d. any (count_ignores_lines un d) (λ (i : ℕ). eqb (label_ignores_lines un i d) 0 && marked_ignores_lines un sh k d (from_ignores_lines un i d) (to_ignores_lines un i d))

-- two stages that differ in lines alone
pub record Beside (g g' : Stage) : Type 0 where
  pub shapes : g.shape ≡ g'.shape
  pub unlined : DifferInLines g.hops g'.hops
  pub maps : g.map ≡ g'.map
  pub counts : g.reductions ≡ g'.reductions

module _ (k : ℕ) where
  next_beside : (g g' : Stage) → Beside g g' → Beside (next_stage k g) (next_stage k g')
  next_beside g g' b = record {
    shapes = ap (λ (sh : Shape). reduced_shape sh g.hops k) b.shapes ∙ reduced_shape_ignores_lines b.unlined g'.shape k;
    unlined =
        subst (λ (sh : Shape). DifferInLines (flat (reduced_hops sh g.hops k)) (flat (reduced_hops g'.shape g'.hops k))) (sym b.shapes)
        (reduced_hops_differ_in_lines b.unlined g'.shape k);
    maps =
        ap (λ (m : List ℕ). composed m (reduced_map g.shape g.hops k)) b.maps ∙
        ap (composed g'.map) (ap (λ (sh : Shape). reduced_map sh g.hops k) b.shapes ∙ reduced_map_ignores_lines b.unlined g'.shape k);
    counts = ap suc b.counts;
  }

  some_beside : (g g' : Stage) → Beside g g' → marks_some k g ≡ marks_some k g'
  some_beside g g' b = ap (λ (sh : Shape). some_marked k sh g.hops) b.shapes ∙ some_ignores_lines b.unlined k g'.shape

  repeated_beside : (n : ℕ) (g g' : Stage) → Beside g g' → Beside (iterated k n g) (iterated k n g')
  unfolding iterated
  repeated_beside zero g g' b = b
  repeated_beside (suc n) g g' b = rw (some_beside g g' b) (go (marks_some k g') (repeated_beside n (next_stage k g) (next_stage k g') (next_beside g g' b))) where
    go : (m : Bool) → Beside (iterated k n (next_stage k g)) (iterated k n (next_stage k g')) →
        Beside (cond m (iterated k n (next_stage k g)) g) (cond m (iterated k n (next_stage k g')) g')
    go true c = c
    go false c = b

-- the last stage, and what the entry returns and leaves as the map
module _ {hs hs' : List ℕ} (un : DifferInLines hs hs') (sh : Shape) (k : ℕ) where
  pub last_beside : Beside (last_stage k sh hs) (last_stage k sh hs')
  unfolding last_of
  last_beside = repeated_beside k sh.states (first_stage sh hs) (first_stage sh hs') (record { shapes = refl; unlined = un; maps = refl; counts = refl })

  pub shrink_ignores_lines : (map_capacity short_capacity : ℕ) → shrink_of sh hs k map_capacity short_capacity ≡ shrink_of sh hs' k map_capacity short_capacity
  unfolding shrink_of
  shrink_ignores_lines map_capacity short_capacity =
      rw (answer_ignores_lines un sh k map_capacity short_capacity, last_beside.shapes, count_ignores_lines last_beside.unlined, last_beside.counts)

  pub last_map_ignores_lines : (map short : List ℕ) → shrink_map_output sh hs k map short ≡ shrink_map_output sh hs' k map short
  unfolding shrink_map_output
  last_map_ignores_lines map short = rw (answer_ignores_lines un sh k (length map) (length short), last_beside.maps)
