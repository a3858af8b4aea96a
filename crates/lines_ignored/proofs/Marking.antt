-- Marking looks at no line: in graphs that differ in lines alone the same hops survive each number
-- of rounds, and in each sense the marked set, the marks and mark's answer are the same. Assumes
-- nothing.
use Prim.Native.Nat.{ℕ}
use mathlib.Core.Path.{◌≡◌, refl}
use mathlib.Core.Bool.{cond, not, ◌&&◌, ◌||◌}
use mathlib.Core.List.{List}
use lib.Dec.{eqb}
use Rattle.base_bounded.specs.Quantifiers.{all, any, tabulate}
use Rattle.graph.specs.declared.Shape.{Shape}
use Rattle.lts.specs.Closes.{Reach, nowhere, single, walks, Sense}
use Rattle.base_fixpoint.specs.Pairs.{Pairs}
use Rattle.base_fixpoint.specs.Approximants.{approximant}
use Rattle.mark_confluence.specs.Rounds.{Trials, closing, answer, hop_answers, answers, tried, closes, silent_hops, survives}
use Rattle.mark_confluence.specs.Marks.{mark_of, marks_of}
use Rattle.mark_senses.specs.Senses.{in_set_at, reaches_by, hop_or_stay, joins_at, answers_to, answers_from, answered_in, closes_in, marked_in, marked_by, sense_of}
use Rattle.mark_entry.specs.Mark.{marks_made, mark_answer, mark_output}
use Rattle.lines_ignored.specs.DifferInLines.{DifferInLines}
use Rattle.lines_ignored.proofs.Checks.{count_ignores_lines, from_ignores_lines, label_ignores_lines, to_ignores_lines, labelled_ignores_lines, has_ignores_lines, check_ignores_lines}
use Rattle.lines_ignored.proofs.Walks.{leads_by_ignores_lines, ringless_ignores_lines}

module _ {hs hs' : List ℕ} (un : DifferInLines hs hs') where
  pub answers_ignores_lines : (z : Pairs) → answers hs z ≡ answers hs' z
  unfolding answers hop_answers answer
  answers_ignores_lines z = λ d. λ (s2 a s3 : ℕ). (eqb a 0 && z s3 s2) ||
      any (count_ignores_lines un d) (λ (j : ℕ). labelled_ignores_lines un s2 a j d && z s3 (to_ignores_lines un j d))

  tried_same : {y y' : Trials} → y ≡ y' → (s1 s2 i : ℕ) → tried hs y s1 s2 i ≡ tried hs' y' s1 s2 i
  unfolding tried
  tried_same e s1 s2 i = λ d. not (eqb (from_ignores_lines un i d) s1) || e d s2 (label_ignores_lines un i d) (to_ignores_lines un i d)

  closes_same : closes hs ≡ closes hs'
  unfolding closes
  closes_same = λ d. λ (u : Pairs) (s1 s2 : ℕ). all (count_ignores_lines un d) (λ (i : ℕ). tried_same (answers_ignores_lines (closing u)) s1 s2 i d)

  silent_hops_same : silent_hops hs ≡ silent_hops hs'
  silent_hops_same = λ d. λ (s t : ℕ). has_ignores_lines un d s 0 t

  -- the rounds
  pub survives_ignores_lines : survives hs ≡ survives hs'
  unfolding survives
  survives_ignores_lines = λ d. approximant (closes_same d) (silent_hops_same d)

  module _ (n : ℕ) (u : Pairs) where
    set_same : in_set_at hs u ≡ in_set_at hs' u
    unfolding in_set_at
    set_same = λ d. λ (i : ℕ). eqb (label_ignores_lines un i d) 0 && u (from_ignores_lines un i d) (to_ignores_lines un i d)

    comes_same : (r : Reach) (s t : ℕ) → reaches_by hs n u r s t ≡ reaches_by hs' n u r s t
    unfolding reaches_by
    comes_same nowhere s t = refl
    comes_same single s t = refl
    comes_same walks s t = leads_by_ignores_lines un set_same n s t

    module _ (sense : Sense) where
      answered_same : answered_in sense hs n u ≡ answered_in sense hs' n u
      unfolding answered_in answers_from answers_to hop_or_stay joins_at
      answered_same = λ d. λ (s2 a s3 : ℕ). any n (λ (p : ℕ). comes_same sense.before s2 p d &&
          any n (λ (q : ℕ). (has_ignores_lines un d p a q || (eqb a 0 && eqb q p)) &&
          any n (λ (s4 : ℕ). comes_same sense.after q s4 d && comes_same sense.closing s3 s4 d)))

  module _ (sh : Shape) where
    closes_in_same : (sense : Sense) → closes_in sense sh hs ≡ closes_in sense sh hs'
    unfolding closes_in
    closes_in_same sense = λ d. λ (u : Pairs) (s1 s2 : ℕ).
        all (count_ignores_lines un d) (λ (i : ℕ). tried_same (answered_same sh.states u sense) s1 s2 i d)

    marked_in_same : (sense : Sense) → marked_in sense sh hs ≡ marked_in sense sh hs'
    unfolding marked_in
    marked_in_same sense = λ d. approximant (closes_in_same sense d) (silent_hops_same d) (count_ignores_lines un d)

    module _ (k : ℕ) where
      -- the marked set of each sense
      pub marked_ignores_lines : marked_by k sh hs ≡ marked_by k sh hs'
      marked_ignores_lines = marked_in_same (sense_of k)

      -- the marks
      pub marks_ignores_lines : marks_made sh hs k ≡ marks_made sh hs' k
      unfolding marks_of mark_of
      marks_ignores_lines = λ d. tabulate (count_ignores_lines un d) (λ (i : ℕ). cond (eqb (label_ignores_lines un i d) 0 && marked_ignores_lines d (from_ignores_lines un i d) (to_ignores_lines un i d)) 1 0)

      -- and what the entry answers and leaves
      module _ (out : List ℕ) where
        pub mark_answer_ignores_lines : mark_answer sh hs k out ≡ mark_answer sh hs' k out
        unfolding mark_answer
        mark_answer_ignores_lines = rw (check_ignores_lines un sh, ringless_ignores_lines un sh, count_ignores_lines un)

        -- what `mark` leaves in its output
        pub mark_output_ignores_lines : mark_output sh hs k out ≡ mark_output sh hs' k out
        unfolding mark_output
        mark_output_ignores_lines = rw (mark_answer_ignores_lines, marks_ignores_lines)
