-- The ways out of the entry: rows 1 to 4, then 9, then 10; and what is known where none of them
-- speaks. Assumes nothing.
use Prim.Native.Nat.{ℕ, suc, ◌<◌, ◌≤◌}
use mathlib.Core.Path.{◌≡◌, refl, sym, ap, ◌∙◌}
use mathlib.Core.Bool.{Bool, true, false, cond, ◌&&◌}
use mathlib.Core.List.{List}
use native.Mathlib.Omega.{arith}
use borrow.Author.Tests.{eq-eqb, ne_eqb, eqb-true, lt-ltb, le-ltb, ltb-true, le-leb, lt-leb, leb-true}
use lib.Dec.{eqb, leb, ltb}
use Rattle.graph.specs.Hops.{count, from, label, to}
use Rattle.graph.specs.Answers.{accepted, refused}
use Rattle.graph_check.specs.Check.{check_of, Admitted}
use Rattle.graph.specs.declared.Shape.{Shape}
use Rattle.graph.specs.declared.Answer.{Answer}
use Rattle.base_bounded.proofs.Bools.{and_left, and_right, and_no_right}
use Rattle.graph_check.proofs.Checked.{check_admitted}
use Rattle.graph.proofs.Accepts.{both_accept}
use Rattle.mark_confluence.specs.Rounds.{survives}
use Rattle.mark_entry_round.specs.Question.{most_rounds, silent_place, few_rounds, question_answer, question_of}

-- a row that does not speak
silent_row : (n : ℕ) (b : Bool) → (cond b accepted (refused (suc n) 0)).number ≡ 0 → b ≡ true
silent_row n true e = refl
silent_row n false e = absurd (omega arith)

-- row 9
module _ (hs : List ℕ) (i : ℕ) where
  pub place_past : count hs ≤ i → refused 9 0 ≡ silent_place hs i
  unfolding silent_place
  place_past l = rw (le-ltb _ _ l)

  pub place_visible : {a : ℕ} → a ≡ label hs i → (a ≡ 0 → ⊥) → refused 9 0 ≡ silent_place hs i
  unfolding silent_place
  place_visible p n = rw (← p, ne_eqb _ _ n, and_no_right (ltb i (count hs)) {b = false} refl)

  pub place_silent : i < count hs → {a : ℕ} → a ≡ label hs i → a ≡ 0 → accepted ≡ silent_place hs i
  unfolding silent_place
  place_silent l p z = rw (← p, lt-ltb _ _ l, eq-eqb _ _ z)

  place_accepted : (silent_place hs i).number ≡ 0 → (i < count hs) × (label hs i ≡ 0)
  unfolding silent_place
  place_accepted e =
      let d = silent_row 8 (ltb i (count hs) && eqb (label hs i) 0) e in
      (ltb-true _ _ (and_left (ltb i (count hs)) _ d), eqb-true _ _ (and_right (ltb i (count hs)) _ d))

-- row 10
module _ (k : ℕ) where
  pub rounds_few : k ≤ most_rounds → accepted ≡ few_rounds k
  unfolding few_rounds
  rounds_few l = rw (le-leb _ _ l)

  pub rounds_many : most_rounds < k → refused 10 0 ≡ few_rounds k
  unfolding few_rounds
  rounds_many l = rw (lt-leb _ _ l)

  rounds_accepted : (few_rounds k).number ≡ 0 → k ≤ most_rounds
  unfolding few_rounds
  rounds_accepted e = leb-true _ _ (silent_row 9 (leb k most_rounds) e)

module _ (sh : Shape) (hs : List ℕ) (i k : ℕ) where
  -- the first row that speaks
  module _ {a : Answer} (p : a ≡ check_of sh hs) where
    pub answer_checked : (a.number ≡ 0 → ⊥) → a ≡ question_answer sh hs i k
    unfolding question_answer
    answer_checked n = rw (← p, ne_eqb _ _ n)

    module _ (z : a.number ≡ 0) {b : Answer} (q : b ≡ silent_place hs i) where
      pub answer_placed : (b.number ≡ 0 → ⊥) → b ≡ question_answer sh hs i k
      unfolding question_answer
      answer_placed n = rw (← p, eq-eqb _ _ z, ← q, ne_eqb _ _ n)

      pub answer_rounds : b.number ≡ 0 → {c : Answer} → c ≡ few_rounds k → c ≡ question_answer sh hs i k
      unfolding question_answer
      answer_rounds y r = rw (← p, eq-eqb _ _ z, ← q, eq-eqb _ _ y, r)

  -- the entry: a row speaks, or the equations decide
  module _ {a : Answer} (p : a ≡ question_answer sh hs i k) where
    pub question_refused : (a.number ≡ 0 → ⊥) → record { answer = a; survives = 0 } ≡ question_of sh hs i k
    unfolding question_of
    question_refused n = rw (← p, ne_eqb _ _ n)

    module _ (z : a.number ≡ 0) where
      pub question_asks : Admitted sh hs × ((i < count hs) × ((label hs i ≡ 0) × (k ≤ most_rounds)))
      unfolding question_answer
      question_asks =
          let (c, d) = both_accept (check_of sh hs) _ (sym (ap (λ (x : Answer). x.number) p) ∙ z) in
          let (e, f) = both_accept (silent_place hs i) (few_rounds k) d in
          (check_admitted sh hs c, ((place_accepted hs i e).0, ((place_accepted hs i e).1, rounds_accepted k f)))

      pub question_answered : {v : Bool} → v ≡ survives hs k (from hs i) (to hs i) → record { answer = a; survives = cond v 1 0 } ≡ question_of sh hs i k
      unfolding question_of
      question_answered {v} e = rw (← p, eq-eqb _ _ z, ← e)
