-- Going by states: the smallest place of a hop that is unmatched for one of the states so far, with
-- the first of these states that has it. Only a smaller place is kept, with its state; after the
-- last state this is the first fault. Assumes nothing.
use Prim.Native.Nat.{ℕ, ◌+◌, ◌<◌, ◌≤◌}
use mathlib.Core.Path.{◌≡◌, refl, ap, ◌∙◌}
use mathlib.Core.Bool.{Bool, true, false, cond}
use mathlib.Core.List.{List}
use mathlib.Core.Logic.{◌⊎◌, inl, inr, ⊎_elim}
use native.Mathlib.Nat.{le_refl}
use native.Mathlib.Omega.{arith}
use borrow.Author.Tests.{lt-ltb, le-ltb}
use lib.Dec.{ltb}
use Rattle.std.proofs.lemmas.Bool.{cases_lt}
use Rattle.std.specs.Prelude.{Option, Some, None}
use Rattle.base_bounded.specs.Quantifiers.{least, any}
use Rattle.base_bounded.proofs.Quantifiers.{least_within}
use Rattle.base_bounded.proofs.Least.{least_first, least_second, first_none, first_sooner, second_sooner, first_later, second_later}
use Rattle.graph.specs.Hops.{count}
use Rattle.graph.specs.declared.Shape.{Shape}
use Rattle.audit_faults.specs.Faults.{unmatched}
use Rattle.audit_faults.specs.First.{fault, no_fault, named, unmatched_place, unmatched_state, first_unmatched}
use Rattle.graph_check.specs.Internal.Places.{place_below}
use Rattle.audit_faults.specs.declared.Fault.{Fault}
use Rattle.audit_unmatched.specs.Internal.States.{unmatched_place_of, kept_with}

-- what is kept with this place and this state, where b hops are none
abbrev pub kept_of : ℕ → ℕ → ℕ → Option Fault
kept_of b p s = cond (ltb p b) (Some (fault 3 p s)) None

-- one state more: a smaller place with this state, or what was kept
module _ (b p s f n : ℕ) where
  smaller : f < p → p ≤ b → (p < b) ⊎ (b ≤ p) → kept_with (kept_of b p s) (place_below b f) n ≡ kept_of b f n
  smaller l w (inl a) = let k : f < b = omega arith in rw (lt-ltb f b k, lt-ltb p b a, lt-ltb f p l)
  smaller l w (inr a) = let k : f < b = omega arith in rw (lt-ltb f b k, le-ltb p b a)

  no_smaller : p ≤ f → (f < b) ⊎ (b ≤ f) → kept_with (kept_of b p s) (place_below b f) n ≡ kept_of b p s
  no_smaller l (inl a) = let k : p < b = omega arith in rw (lt-ltb f b a, lt-ltb p b k, le-ltb f p l)
  no_smaller l (inr a) = rw (le-ltb f b a)

module _ (sh1 : Shape) (h1 h2 m : List ℕ) where
  abbrev place : ℕ → ℕ
  place n = least_first (count h2) (unmatched sh1 h1 h2 m) n

  abbrev state : ℕ → ℕ
  state n = least_second (count h2) (unmatched sh1 h1 h2 m) n

  -- what is kept after n states
  pub kept_at : ℕ → Option Fault
  kept_at n = kept_of (count h2) (place n) (state n)

  pub kept_none : None ≡ kept_at 0
  unfolding kept_at
  kept_none = rw (first_none (count h2) (unmatched sh1 h1 h2 m), le-ltb (count h2) (count h2) (le_refl (count h2)))

  module _ (n : ℕ) {f : ℕ} (e : f ≡ unmatched_place_of sh1 h1 h2 m n) where
    sooner : f < place n → kept_with (kept_at n) (place_below (count h2) f) n ≡ kept_at (n + 1)
    unfolding kept_at unmatched_place_of
    sooner l =
        let within : place n ≤ count h2 = least_within (λ (j : ℕ). any n (unmatched sh1 h1 h2 m j)) (count h2) in
        let kept = smaller (count h2) (place n) (state n) f n l within (cases_lt (place n) (count h2)) in
        kept ∙ ap (λ (x : ℕ). kept_of (count h2) x n) (first_sooner (count h2) (unmatched sh1 h1 h2 m) n e l) ∙
        ap (kept_of (count h2) (place (n + 1))) (second_sooner (count h2) (unmatched sh1 h1 h2 m) n e l)

    later : place n ≤ f → kept_with (kept_at n) (place_below (count h2) f) n ≡ kept_at (n + 1)
    unfolding kept_at unmatched_place_of
    later l =
        no_smaller (count h2) (place n) (state n) f n l (cases_lt f (count h2)) ∙
        ap (λ (x : ℕ). kept_of (count h2) x (state n)) (first_later (count h2) (unmatched sh1 h1 h2 m) n e l) ∙
        ap (kept_of (count h2) (place (n + 1))) (second_later (count h2) (unmatched sh1 h1 h2 m) n e l)

  pub kept_more : (n : ℕ) {k : Option Fault} → k ≡ kept_at n → {o : Option ℕ} → o ≡ place_below (count h2) (unmatched_place_of sh1 h1 h2 m n) →
      kept_with k o n ≡ kept_at (n + 1)
  kept_more n d e = rw (d, e) (⊎_elim (λ l. sooner n refl l) (λ l. later n refl l) (cases_lt (unmatched_place_of sh1 h1 h2 m n) (place n)))

  pub kept_first : {k : Option Fault} → k ≡ kept_at sh1.states → k ≡ named (first_unmatched sh1 h1 h2 m)
  unfolding kept_at first_unmatched unmatched_place unmatched_state
  kept_first d = rw d (go (ltb (place sh1.states) (count h2)) (least sh1.states (unmatched sh1 h1 h2 m (place sh1.states)))) where
    go : (x : Bool) (q : ℕ) → cond x (Some (fault 3 (place sh1.states) (cond x q 0))) None ≡ named (cond x (fault 3 (place sh1.states) q) no_fault)
    go true q = refl
    go false q = refl
