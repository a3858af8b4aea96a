-- Faults look at no line: from and to graphs that differ in lines alone a map has the same faults,
-- and the audit returns the same. Assumes nothing.
use Prim.Native.Nat.{ℕ}
use mathlib.Core.Path.{◌≡◌}
use mathlib.Core.Bool.{not, ◌&&◌, ◌||◌}
use mathlib.Core.List.{List}
use lib.Dec.{eqb}
use Rattle.base_bounded.specs.Quantifiers.{any, least, tally, total}
use Rattle.graph.specs.Map.{mapped}
use Rattle.graph.specs.declared.Shape.{Shape}
use Rattle.audit_faults.specs.Faults.{preserved, lost_faults, match_at, matched_from, matched, unmatched, unmatched_faults, faults_of}
use Rattle.audit_faults.specs.First.{lost_place, first_lost, unmatched_place, unmatched_state, first_unmatched, first_fault}
use Rattle.audit_admitted.specs.Admitted.{audit_answer}
use Rattle.audit_entry.specs.Audit.{audit_of}
use Rattle.lines_ignored.specs.DifferInLines.{DifferInLines}
use Rattle.lines_ignored.proofs.Checks.{count_ignores_lines, from_ignores_lines, label_ignores_lines, to_ignores_lines, has_ignores_lines, check_ignores_lines}
use Rattle.lines_ignored.proofs.Walks.{leads_ignores_lines}

module _ {h1 h1' h2 h2' : List ℕ} (un1 : DifferInLines h1 h1') (un2 : DifferInLines h2 h2') (m : List ℕ) where
  -- the hops that are lost
  kept_same : preserved h1 h2 m ≡ preserved h1' h2' m
  unfolding preserved
  kept_same = λ d. λ (i : ℕ).
      (eqb (label_ignores_lines un1 i d) 0 && eqb (mapped m (from_ignores_lines un1 i d)) (mapped m (to_ignores_lines un1 i d))) ||
      has_ignores_lines un2 d (mapped m (from_ignores_lines un1 i d)) (label_ignores_lines un1 i d) (mapped m (to_ignores_lines un1 i d))

  lost_same : lost_faults h1 h2 m ≡ lost_faults h1' h2' m
  unfolding lost_faults
  lost_same = λ d. tally (count_ignores_lines un1 d) (λ (i : ℕ). not (kept_same d i))

  place_same : lost_place h1 h2 m ≡ lost_place h1' h2' m
  unfolding lost_place
  place_same = λ d. least (count_ignores_lines un1 d) (λ (i : ℕ). not (kept_same d i))

  first_lost_same : first_lost h1 h2 m ≡ first_lost h1' h2' m
  unfolding first_lost
  first_lost_same = rw (place_same, count_ignores_lines un1)

  -- the hops that are unmatched
  offers_same : match_at h1 m ≡ match_at h1' m
  unfolding match_at
  offers_same = λ d. λ (r a q u : ℕ). eqb (mapped m u) r && any (count_ignores_lines un1 d)
      (λ (i : ℕ). eqb (from_ignores_lines un1 i d) u && (eqb (label_ignores_lines un1 i d) a && eqb (mapped m (to_ignores_lines un1 i d)) q))

  module _ (sh1 : Shape) where
    backed_same : matched_from sh1 h1 m ≡ matched_from sh1 h1' m
    unfolding matched_from
    backed_same = λ d. λ (s r a q : ℕ). any sh1.states (λ (u : ℕ). leads_ignores_lines un1 sh1.states s u d && offers_same d r a q u)

    unmatched_same : unmatched sh1 h1 h2 m ≡ unmatched sh1 h1' h2' m
    unfolding unmatched matched
    unmatched_same = λ d. λ (j s : ℕ). eqb (mapped m s) (from_ignores_lines un2 j d) &&
        not ((eqb (label_ignores_lines un2 j d) 0 && eqb (from_ignores_lines un2 j d) (to_ignores_lines un2 j d)) ||
        backed_same d s (from_ignores_lines un2 j d) (label_ignores_lines un2 j d) (to_ignores_lines un2 j d))

    unmatched_faults_same : unmatched_faults sh1 h1 h2 m ≡ unmatched_faults sh1 h1' h2' m
    unfolding unmatched_faults
    unmatched_faults_same = λ d. total (count_ignores_lines un2 d) (λ (j : ℕ). tally sh1.states (unmatched_same d j))

    unmatched_place_same : unmatched_place sh1 h1 h2 m ≡ unmatched_place sh1 h1' h2' m
    unfolding unmatched_place
    unmatched_place_same = λ d. least (count_ignores_lines un2 d) (λ (j : ℕ). any sh1.states (unmatched_same d j))

    first_unmatched_same : first_unmatched sh1 h1 h2 m ≡ first_unmatched sh1 h1' h2' m
    unfolding first_unmatched unmatched_state
    first_unmatched_same = rw (unmatched_place_same, unmatched_same, count_ignores_lines un2)

    module _ (sh2 : Shape) where
      pub faults_ignores_lines : faults_of sh1 sh2 h1 h2 m ≡ faults_of sh1 sh2 h1' h2' m
      unfolding faults_of
      faults_ignores_lines = rw (lost_same, unmatched_faults_same)

      pub first_fault_ignores_lines : first_fault sh1 sh2 h1 h2 m ≡ first_fault sh1 sh2 h1' h2' m
      unfolding first_fault
      first_fault_ignores_lines = rw (first_lost_same, first_unmatched_same)

      audit_answer_same : audit_answer sh1 sh2 h1 h2 m ≡ audit_answer sh1 sh2 h1' h2' m
      unfolding audit_answer
      audit_answer_same = rw (check_ignores_lines un1 sh1, check_ignores_lines un2 sh2)

      -- all that the audit returns
      pub audit_ignores_lines : audit_of sh1 sh2 h1 h2 m ≡ audit_of sh1 sh2 h1' h2' m
      unfolding audit_of
      audit_ignores_lines = rw (audit_answer_same, faults_ignores_lines, first_fault_ignores_lines)
