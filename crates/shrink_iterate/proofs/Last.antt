-- The last stage of a repetition. It is where the repetition ends, and no other stage is; no hop of
-- its graph is marked; the audit of the first graph against it finds no fault; and fewer reductions
-- led to it than the first graph has states. Assumes nothing.
use Prim.Native.Nat.{ℕ, zero, suc, ◌<◌, ◌≤◌}
use mathlib.Core.Path.{◌≡◌, refl, sym, ◌∙◌}
use mathlib.Core.Bool.{true, false}
use mathlib.Core.List.{List}
use mathlib.Core.Logic.{◌⊎◌, inl, inr}
use native.Mathlib.Omega.{arith}
use Rattle.std.proofs.lemmas.Bool.{cases_Bool}
use Rattle.graph.specs.declared.Shape.{Shape}
use Rattle.base_fixpoint.specs.Pairs.{In}
use Rattle.reduce_representatives.specs.Reducible.{Reducible}
use Rattle.audit_entry.specs.Audit.{audit_of, faultless}
use Rattle.shrink_iterate.specs.Iterate.{Stage, first_stage, next_stage, stage_marked, marks_some, iterated, last_of, last_stage, EndsIn, still, again}
use Rattle.shrink_iterate.proofs.Stages.{some_marked_lem, none_marked, fewer_states, Staged, first_staged, next_staged}

module _ (k : ℕ) where
  -- the two ways on
  repeated_still : (n : ℕ) (g : Stage) → marks_some k g ≡ false → iterated k n g ≡ g
  unfolding iterated
  repeated_still zero g e = refl
  repeated_still (suc n) g e = rw e

  repeated_again : (n : ℕ) (g : Stage) → marks_some k g ≡ true → iterated k (suc n) g ≡ iterated k n (next_stage k g)
  unfolding iterated
  repeated_again n g e = rw e

  module _ {sh : Shape} {hs : List ℕ} where
    -- as many reductions as there are states are enough: more make no difference
    enough : (n m : ℕ) {g : Stage} → Staged sh hs g → g.shape.states ≤ n → g.shape.states ≤ m → iterated k n g ≡ iterated k m g
    enough zero m st l w = absurd (omega (arith, st.reducible.admitted.states_some))
    enough (suc n) zero st l w = absurd (omega (arith, st.reducible.admitted.states_some))
    enough (suc n) (suc m) {g} st l w = on (cases_Bool (marks_some k g)) (λ s x y. enough n m {g = next_stage k g} s x y) where
      on : (marks_some k g ≡ true) ⊎ (marks_some k g ≡ false) →
          (Staged sh hs (next_stage k g) → (next_stage k g).shape.states ≤ n → (next_stage k g).shape.states ≤ m →
          iterated k n (next_stage k g) ≡ iterated k m (next_stage k g)) →
          iterated k (suc n) g ≡ iterated k (suc m) g
      on (inl e) ih =
          let f = fewer_states k g st.reducible e in
          repeated_again n g e ∙ ih (next_staged k st e) (omega arith) (omega arith) ∙ sym (repeated_again m g e)
      on (inr e) ih = repeated_still (suc n) g e ∙ sym (repeated_still (suc m) g e)

    -- the next stage leads to the same last one, if a hop is marked
    pub last_again : {g : Stage} → Staged sh hs g → marks_some k g ≡ true → last_of k (next_stage k g) ≡ last_of k g
    unfolding last_of
    last_again {g} st e = on g.shape.states refl where
      on : (n : ℕ) → g.shape.states ≡ n → iterated k (next_stage k g).shape.states (next_stage k g) ≡ iterated k n g
      on zero q = absurd (omega (arith, st.reducible.admitted.states_some))
      on (suc n) q =
          let f = fewer_states k g st.reducible e in
          enough (next_stage k g).shape.states n (next_staged k st e) (omega arith) (omega arith) ∙ sym (repeated_again n g e)

    arrives : (n : ℕ) {g : Stage} → Staged sh hs g → g.shape.states ≤ n → EndsIn k g (iterated k n g) × Staged sh hs (iterated k n g)
    arrives zero st l = absurd (omega (arith, st.reducible.admitted.states_some))
    arrives (suc n) {g} st l = on (cases_Bool (marks_some k g)) (λ s x. arrives n {g = next_stage k g} s x) where
      on : (marks_some k g ≡ true) ⊎ (marks_some k g ≡ false) →
          (Staged sh hs (next_stage k g) → (next_stage k g).shape.states ≤ n →
          EndsIn k (next_stage k g) (iterated k n (next_stage k g)) × Staged sh hs (iterated k n (next_stage k g))) →
          EndsIn k g (iterated k (suc n) g) × Staged sh hs (iterated k (suc n) g)
      on (inl e) ih =
          let f = fewer_states k g st.reducible e in
          let (s, t, m) = some_marked_lem k g e in
          let (a, b) = ih (next_staged k st e) (omega arith) in
          rw (repeated_again n g e) (again s t m a, b)
      on (inr e) ih = rw (repeated_still (suc n) g e) (still (none_marked k g e), st)

  -- a stage in which no hop is marked is its own last
  pub last_still : (g : Stage) → marks_some k g ≡ false → last_of k g ≡ g
  unfolding last_of
  last_still g e = repeated_still g.shape.states g e

  -- where a repetition ends no hop is marked
  ends_still : {g h : Stage} → EndsIn k g h → (s t : ℕ) → In (stage_marked k h) s t → ⊥
  ends_still (still none) = none
  ends_still (again _ _ _ p) = ends_still p

  -- a repetition ends in one stage only
  pub ends_in_unique : {g h i : Stage} → EndsIn k g h → EndsIn k g i → h ≡ i
  ends_in_unique (still none) (still _) = refl
  ends_in_unique (still none) (again s t m _) = absurd (none s t m)
  ends_in_unique (again s t m _) (still none) = absurd (none s t m)
  ends_in_unique (again _ _ _ p) (again _ _ _ q) = ends_in_unique p q

-- of every graph that rows 1 to 5 let pass
module _ (k : ℕ) {sh : Shape} {hs : List ℕ} (red : Reducible sh hs) where
  both : EndsIn k (first_stage sh hs) (last_stage k sh hs) × Staged sh hs (last_stage k sh hs)
  unfolding last_of
  both = arrives k sh.states (first_staged red) (omega arith)

  pub last_staged : Staged sh hs (last_stage k sh hs)
  last_staged = both.1

  -- "until no hop is marked": the repetition ends in the last stage
  pub last_ends_in : EndsIn k (first_stage sh hs) (last_stage k sh hs)
  last_ends_in = both.0

  -- what is returned has no marked hop
  pub last_unmarked : (s t : ℕ) → In (stage_marked k (last_stage k sh hs)) s t → ⊥
  last_unmarked = ends_still k last_ends_in

  -- "the returned map has none"
  pub last_audit_zero : audit_of sh (last_stage k sh hs).shape hs (last_stage k sh hs).hops (last_stage k sh hs).map ≡ faultless
  last_audit_zero = last_staged.right

  -- "the number of reductions is below the first state count"
  pub last_reductions_lt_states : (last_stage k sh hs).reductions < sh.states
  last_reductions_lt_states = omega (arith, last_staged.few, last_staged.reducible.admitted.states_some)
