-- What is asked of a hop looks at no line: of graphs that differ in lines alone the round question
-- and find answer the same, and the faster marking takes as many tests. Assumes nothing.
use Prim.Native.Nat.{ℕ, zero, suc}
use mathlib.Core.Path.{◌≡◌}
use mathlib.Core.Bool.{not, ◌&&◌}
use mathlib.Core.List.{List}
use lib.Dec.{eqb}
use Rattle.base_bounded.specs.Quantifiers.{any, tally, total}
use Rattle.graph.specs.Hops.{hop_of}
use Rattle.graph.specs.declared.Shape.{Shape}
use Rattle.graph.proofs.Ordered.{alike_itself, before_alike}
use Rattle.graph_find.specs.Find.{hops_before, find_of}
use Rattle.base_fixpoint.specs.Pairs.{Pairs}
use Rattle.mark_worklist.specs.Tests.{fell, still_marked, affected_at, affected, tested_in, tests_in, tests_up_to, tests_of}
use Rattle.mark_entry_fast.specs.Fast.{mark_fast_of}
use Rattle.mark_entry_round.specs.Question.{silent_place, question_answer, question_of}
use Rattle.lines_ignored.specs.DifferInLines.{DifferInLines}
use Rattle.lines_ignored.proofs.Checks.{count_ignores_lines, from_ignores_lines, label_ignores_lines, to_ignores_lines, has_ignores_lines, check_ignores_lines}
use Rattle.lines_ignored.proofs.Marking.{answers_ignores_lines, survives_ignores_lines, mark_answer_ignores_lines}

module _ {hs hs' : List ℕ} (un : DifferInLines hs hs') where
  -- where a hop would stand
  before_same : (s a t : ℕ) → hops_before hs s a t ≡ hops_before hs' s a t
  unfolding hops_before
  before_same s a t = λ d. tally (count_ignores_lines un d) (λ (i : ℕ). before_alike (un.alike i) (alike_itself (hop_of s a t)) d)

  pub find_ignores_lines : (sh : Shape) (s a t : ℕ) → find_of sh hs s a t ≡ find_of sh hs' s a t
  unfolding find_of
  find_ignores_lines sh s a t = rw (check_ignores_lines un sh, has_ignores_lines un, before_same s a t)

  question_answer_same : (sh : Shape) (i k : ℕ) → question_answer sh hs i k ≡ question_answer sh hs' i k
  unfolding question_answer silent_place
  question_answer_same sh i k = rw (check_ignores_lines un sh, count_ignores_lines un, label_ignores_lines un i)

  pub question_ignores_lines : (sh : Shape) (i k : ℕ) → question_of sh hs i k ≡ question_of sh hs' i k
  unfolding question_of
  question_ignores_lines sh i k = rw (question_answer_same sh i k, survives_ignores_lines un, from_ignores_lines un i, to_ignores_lines un i)

  -- the hops that a round tests
  fell_same : (k : ℕ) → fell hs k ≡ fell hs' k
  unfolding fell
  fell_same k = λ d. λ (s t : ℕ). survives_ignores_lines un d k s t && not (survives_ignores_lines un d (suc k) s t)

  standing_same : (k i : ℕ) → still_marked hs k i ≡ still_marked hs' k i
  unfolding still_marked
  standing_same k i = rw (label_ignores_lines un i, survives_ignores_lines un, from_ignores_lines un i, to_ignores_lines un i)

  affected_same : (v : Pairs) → affected hs v ≡ affected hs' v
  unfolding affected affected_at
  affected_same v = λ d. λ (s1 s2 : ℕ). any (count_ignores_lines un d)
      (λ (j : ℕ). eqb (from_ignores_lines un j d) s1 && answers_ignores_lines un v d s2 (label_ignores_lines un j d) (to_ignores_lines un j d))

  due_same : (k i : ℕ) → tested_in hs k i ≡ tested_in hs' k i
  unfolding tested_in
  due_same zero i = λ d. eqb (label_ignores_lines un i d) 0
  due_same (suc k) i = rw (standing_same (suc k) i, fell_same k, affected_same, from_ignores_lines un i, to_ignores_lines un i)

  pub tests_ignores_lines : tests_of hs ≡ tests_of hs'
  unfolding tests_of tests_up_to tests_in
  tests_ignores_lines = λ d. total (count_ignores_lines un d) (λ (k : ℕ). tally (count_ignores_lines un d) (λ (i : ℕ). due_same k i d))

  pub counted_ignores_lines : (sh : Shape) (out : List ℕ) → mark_fast_of sh hs out ≡ mark_fast_of sh hs' out
  unfolding mark_fast_of
  counted_ignores_lines sh out = rw (mark_answer_ignores_lines un sh 1 out, tests_ignores_lines)
