-- One iteration that marked something: what stands in the lists afterwards is the next stage.
-- Assumes nothing.
use Prim.Native.Nat.{ℕ, ◌+◌, ◌≤◌}
use mathlib.Core.Path.{◌≡◌, ap, ◌∙◌}
use mathlib.Core.Bool.{true}
use mathlib.Core.List.{List}
use native.Mathlib.Numerals.{add-one}
use native.Mathlib.Omega.{arith}
use lib.ListN.{length, take}
use lib.Seq.{take_at}
use Rattle.base_bounded.proofs.Quantifiers.{length_tabulate}
use Rattle.base_outputs.specs.Output.{on_front}
use Rattle.graph.specs.Hops.{count, flat, between}
use Rattle.graph.proofs.Fronts.{flat_front, between_count}
use Rattle.graph.proofs.Places.{length_flat}
use Rattle.mark_confluence.specs.Marks.{marks_of}
use Rattle.mark_confluence.specs.Internal.MarkSet.{mark_set}
use Rattle.mark_confluence.proofs.Marks.{mark_set_set}
use Rattle.mark_senses.specs.Senses.{sense_of, marked_by}
use Rattle.mark_senses.proofs.Marked.{in_silent}
use Rattle.reduce_short_graph.specs.Short.{map_list}
use Rattle.reduce_by_marks.specs.Internal.ByMarks.{short_graph, map_after, short_after}
use Rattle.reduce_by_marks.specs.declared.ShortGraph.{ShortGraph}
use Rattle.reduce_entry.specs.Internal.Reduce.{reduced_state}
use Rattle.reduce_entry.specs.Reduce.{reduced_map, reduced_hops}
use Rattle.reduce_entry.proofs.Marked.{marked_within}
use Rattle.shrink_compose.specs.Composed.{composed}
use Rattle.shrink_iterate.specs.Iterate.{Stage, next_stage}
use Rattle.shrink_step.specs.Internal.Progress.{stage_of}
use Rattle.shrink_step.specs.declared.Progress.{Progress}

-- where the code stands, the part of the hops that it has marked and reduced, and what that
-- returned
module _
    (k : ℕ) (at : Progress) (hops map : List ℕ) {seen : List ℕ} (p : seen ≡ between hops 0 at.hops) (ms out : List ℕ)
    (e : ms ≡ on_front (marks_of seen (marked_by k at.shape seen)) out) {made : ShortGraph} (made-is : made ≡ short_graph at.shape seen (mark_set seen ms))
  where
    abbrev g : Stage
    g = stage_of at hops map

    -- the set that the marks hold
    same : mark_set seen ms ≡ marked_by k at.shape seen
    same = mark_set_set seen (marked_by k at.shape seen) ms out e (in_silent (sense_of k) at.shape seen)

    reduced_is : made ≡ short_graph g.shape g.hops (marked_by k g.shape g.hops)
    reduced_is = rw (same, p) at made-is

    hops_are : made.hops ≡ length (reduced_hops g.shape g.hops k)
    hops_are = ap (λ (x : ShortGraph). x.hops) reduced_is

    -- the short hops are no more than the hops
    pub hops_within : made.hops ≤ count g.hops
    hops_within = omega (arith, hops_are, marked_within g.shape g.hops k)

    pub hops_fewer : at.hops ≤ count hops → made.hops ≤ at.hops
    hops_fewer l = omega (arith, hops_within, between_count hops l)

    module _ (old : List ℕ) {short : List ℕ} (s : short ≡ short_after at.shape seen ms old) where
      short_hops_lem : between short 0 made.hops ≡ flat (reduced_hops g.shape g.hops k)
      short_hops_lem =
          ap (λ (x : List ℕ). between x 0 made.hops) (rw (same, p) at s) ∙
          flat_front (reduced_hops g.shape g.hops k) _ hops_are

      -- they fit where the hops were
      pub short_capacity : {part : List ℕ} → part ≡ between short 0 made.hops → at.hops ≤ count hops → length part ≤ length hops
      short_capacity q l = omega (arith, ap length (q ∙ short_hops_lem), length_flat (reduced_hops g.shape g.hops k), hops_are, hops_fewer l)

      pub stepped : (was : List ℕ) {next then part after : List ℕ} → next ≡ map_after at.shape seen ms was → part ≡ between short 0 made.hops →
          after ≡ on_front part hops → then ≡ composed map (take at.shape.states next) →
          stage_of (record { shape = made.shape; hops = made.hops; reductions = at.reductions + 1; more = true }) after then ≡ next_stage k g
      unfolding map_list
      stepped was {then = then} {after = after} f q r t = λ d. record { shape = (reduced_is d).shape; hops = last d; map = on d; reductions = add-one at.reductions d } where
        last : between after 0 made.hops ≡ flat (reduced_hops g.shape g.hops k)
        last =
            ap (λ (x : List ℕ). between x 0 made.hops) (r ∙ ap (λ (x : List ℕ). on_front x hops) (q ∙ short_hops_lem)) ∙
            flat_front (reduced_hops g.shape g.hops k) _ hops_are

        on : then ≡ composed map (reduced_map g.shape g.hops k)
        on =
            t ∙ ap (composed map) (ap (take at.shape.states) (rw (same, p) at f) ∙
            take_at (reduced_map g.shape g.hops k) _ at.shape.states (length_tabulate (reduced_state g.shape g.hops k) at.shape.states))
