-- The marked set is the greatest confluent set, the union of all of them, the greatest solution of
-- the equations X, Y and Z, and what survives every number of rounds: the last round changes
-- nothing, so the set is its own X. Assumes nothing.
use Prim.Native.Nat.{ℕ}
use mathlib.Core.Path.{◌≡◌, refl, sym, ap, ◌∙◌}
use mathlib.Core.Bool.{true, ◌&&◌}
use mathlib.Core.List.{List}
use Rattle.lts.specs.Sense.{R1}
use Rattle.graph.specs.Hops.{count, has}
use Rattle.base_bounded.proofs.Bools.{and_left, and_right}
use Rattle.walk_silent.specs.Silent.{HopOf}
use Rattle.base_fixpoint.specs.Pairs.{Pairs, In, Subset}
use Rattle.base_fixpoint.specs.Internal.Approximants.{PostFixed}
use Rattle.base_fixpoint.proofs.Approximants.{approximant_fixed, post_fixed_approximant, approximant_post_fixed, approximant_every, approximant_same}
use Rattle.mark_confluence.specs.Rounds.{Trials, closing, answers, closes, Solution, silent_hops, survives, marked, ConfluentSet}
use Rattle.mark_confluence.proofs.Closing.{closes_says, closes_yes, closed_mono, closing_mono, answers_mono}
use Rattle.mark_confluence.proofs.Rounds.{closes_monotone, silent_listed}

module _ (hs : List ℕ) where
  -- the equation X of the marked set, with Y and Z put in, for every pair: one round more changes
  -- nothing
  pub marked_fixed : (s1 s2 : ℕ) → marked hs s1 s2 ≡ (has hs s1 0 s2 && closes hs (marked hs) s1 s2)
  unfolding marked survives
  marked_fixed = approximant_fixed (closes hs) (silent_hops hs) (closes_monotone hs) (silent_listed hs)

  -- a set that meets it is confluent
  fixed_confluent : (x : Pairs) → ((s1 s2 : ℕ) → x s1 s2 ≡ (has hs s1 0 s2 && closes hs x s1 s2)) → ConfluentSet hs (In x)
  fixed_confluent x f =
      record {
        silent = λ s1 s2 e. and_left (has hs s1 0 s2) (closes hs x s1 s2) (sym (f s1 s2) ∙ e);
        closed = λ s1 s2 e. closes_says hs x s1 s2 (and_right (has hs s1 0 s2) (closes hs x s1 s2) (sym (f s1 s2) ∙ e));
      }

  pub marked_confluent : ConfluentSet hs (In (marked hs))
  marked_confluent = fixed_confluent (marked hs) marked_fixed

  -- a confluent set keeps itself through a round
  pub confluent_kept : {U : ℕ → ℕ → Type 0} → ConfluentSet hs U → PostFixed (closes hs) U
  confluent_kept c v f s t m = closes_yes hs v s t (closed_mono hs f s t (c.closed s t m))

  -- so a hop of it survives every number of rounds
  pub confluent_survives : {U : ℕ → ℕ → Type 0} → ConfluentSet hs U → (k s t : ℕ) → U s t → survives hs k s t ≡ true
  unfolding survives
  confluent_survives c = post_fixed_approximant (closes hs) (silent_hops hs) c.silent (confluent_kept c)

  pub marked_greatest : (U : ℕ → ℕ → Type 0) → ConfluentSet hs U → (s t : ℕ) → U s t → marked hs s t ≡ true
  unfolding marked
  marked_greatest U c = confluent_survives c (count hs)

  -- "The marked set is the union of all confluent sets"
  pub marked_iff : (s t : ℕ) →
      (marked hs s t ≡ true → (U : ℕ → ℕ → Type 0) × ConfluentSet hs U × U s t) ×
      ((U : ℕ → ℕ → Type 0) × ConfluentSet hs U × U s t → marked hs s t ≡ true)
  marked_iff s t = ((λ e. (In (marked hs), marked_confluent, e)), (λ (U, c, m). marked_greatest U c s t m))

  -- "the greatest solution of three equations": it is one, with its Y and Z ..
  pub marked_solution : Solution hs (marked hs) (answers hs (closing (marked hs))) (closing (marked hs))
  unfolding closes
  marked_solution = record { x_is = marked_fixed; y_is = λ s2 a s3. refl; z_is = λ s3 s4. refl }

  -- .. and each solution's X, Y and Z are within them
  module _ {X Z : Pairs} {Y : Trials} (sol : Solution hs X Y Z) where
    z_put : Z ≡ closing X
    z_put = λ k s3 s4. sol.z_is s3 s4 k

    y_put : Y ≡ answers hs (closing X)
    y_put = (λ k s2 a s3. sol.y_is s2 a s3 k) ∙ ap (answers hs) z_put

    x_put : (s1 s2 : ℕ) → X s1 s2 ≡ (has hs s1 0 s2 && closes hs X s1 s2)
    unfolding closes
    x_put s1 s2 = sol.x_is s1 s2 ∙ rw y_put

    pub solution_x_within : (s1 s2 : ℕ) → X s1 s2 ≡ true → marked hs s1 s2 ≡ true
    solution_x_within = marked_greatest (In X) (fixed_confluent X x_put)

    pub solution_y_within : (s2 a s3 : ℕ) → Y s2 a s3 ≡ true → answers hs (closing (marked hs)) s2 a s3 ≡ true
    solution_y_within s2 a s3 e = answers_mono hs X (marked hs) solution_x_within s2 a s3 (rw y_put at e)

    pub solution_z_within : (s3 s4 : ℕ) → Z s3 s4 ≡ true → closing (marked hs) s3 s4 ≡ true
    solution_z_within s3 s4 e = closing_mono hs X (marked hs) solution_x_within s3 s4 (rw z_put at e)

  -- "The marked set is what survives every k"
  pub marked_every : (s t : ℕ) →
      (marked hs s t ≡ true → (k : ℕ) → survives hs k s t ≡ true) × (((k : ℕ) → survives hs k s t ≡ true) → marked hs s t ≡ true)
  unfolding marked survives
  marked_every = approximant_every (closes hs) (silent_hops hs) (closes_monotone hs) (silent_listed hs)

  -- a hop of the marked set closes with any set that holds the marked set ..
  pub marked_kept : PostFixed (closes hs) (In (marked hs))
  unfolding marked survives
  marked_kept = approximant_post_fixed (closes hs) (silent_hops hs) (closes_monotone hs) (silent_listed hs)

  -- .. and such a set of silent hops that all close with it is the marked set
  pub marked_same : (v : Pairs) → Subset (In v) (In (silent_hops hs)) → Subset (In v) (In (closes hs v)) → Subset (In (marked hs)) (In v) → v ≡ marked hs
  unfolding marked survives
  marked_same = approximant_same (closes hs) (silent_hops hs) (closes_monotone hs) (silent_listed hs)

  -- the union of confluent sets is confluent
  pub union_confluent : (I : Type 0) (U : I → ℕ → ℕ → Type 0) → ((i : I) → ConfluentSet hs (U i)) → ConfluentSet hs (λ s t. (i : I) × U i s t)
  union_confluent I U c =
      record {
        silent = λ s t (i, m). (c i).silent s t m;
        closed = λ s1 s2 (i, m). closed_mono hs (λ s t w. (i, w)) s1 s2 ((c i).closed s1 s2 m);
      }

  -- strong confluence is the sense R1 of the theory over any relation
  pub confluent_r1 : {U : ℕ → ℕ → Type 0} → ConfluentSet hs U → R1 (HopOf hs) U
  confluent_r1 c = c.closed
