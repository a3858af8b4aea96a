-- Only hops of r are unstamped for r, so going over these finds the first and counts them all.
-- Assumes nothing.
use Prim.Native.Nat.{ℕ, ◌+◌, ◌<◌, ◌≤◌}
use mathlib.Core.Path.{◌≡◌, sym, ◌∙◌}
use mathlib.Core.Bool.{Bool, false}
use mathlib.Core.List.{List}
use mathlib.Core.Logic.{◌⊎◌, inl, inr, ⊎_elim}
use native.Mathlib.Nat.{le_refl}
use native.Mathlib.Omega.{arith}
use borrow.Author.Tests.{ne_eqb, ltb-false, lt-ltb, le-ltb}
use Rattle.std.proofs.lemmas.Bool.{and_left, cases_lt}
use Rattle.base_bounded.specs.Quantifiers.{least, tally}
use Rattle.graph.specs.Hops.{count, from}
use Rattle.graph.specs.Order.{Ascending}
use Rattle.graph.specs.Search.{first_of}
use Rattle.base_bounded.proofs.Quantifiers.{least_before, least_no, least_found, least_passes}
use Rattle.base_bounded.proofs.Tallies.{tally_rest}
use Rattle.graph.proofs.Lookup.{first_law, first_within}
use Rattle.graph_successors.proofs.Firsts.{first_below}
use Rattle.graph_check.specs.Internal.Places.{place_below}
use Rattle.audit_unmatched.specs.Internal.States.{unstamped}

module _ (h2 stamps : List ℕ) (up : Ascending h2) (r k : ℕ) where
  abbrev test : ℕ → Bool
  test = unstamped h2 stamps r k

  not_of : (j : ℕ) → (r ≡ from h2 j → ⊥) → test j ≡ false
  unfolding unstamped
  not_of j d = and_left _ _ (ne_eqb r (from h2 j) d)

  none_before : {j : ℕ} → j < first_of h2 r → test j ≡ false
  none_before {j} l = not_of j (λ q. omega (arith, first_below h2 up r l))

  none_after : {j : ℕ} → first_of h2 (r + 1) ≤ j → j < count h2 → test j ≡ false
  none_after {j} lo l = not_of j (λ q. omega (arith, beyond)) where
    beyond : r + 1 ≤ from h2 j
    beyond = ltb-false (from h2 j) (r + 1) (sym (first_law h2 up (r + 1) l) ∙ le-ltb j (first_of h2 (r + 1)) lo)

  -- the search for the first: where it begins, and that it may end with the hops of r
  pub first_begins : least (first_of h2 r) test ≡ first_of h2 r
  first_begins = least_no test (first_of h2 r) (λ j l. none_before l)

  pub found_ends : place_below (first_of h2 (r + 1)) (least (first_of h2 (r + 1)) test) ≡ place_below (count h2) (least (count h2) test)
  found_ends = go (cases_lt (least (first_of h2 (r + 1)) test) (first_of h2 (r + 1))) where
    none : first_of h2 (r + 1) ≤ least (first_of h2 (r + 1)) test → (i : ℕ) → i < count h2 → test i ≡ false
    none e i l = ⊎_elim (λ h. least_before test (first_of h2 (r + 1)) (omega arith)) (λ h. none_after h l) (cases_lt i (first_of h2 (r + 1)))

    go : (least (first_of h2 (r + 1)) test < first_of h2 (r + 1)) ⊎ (first_of h2 (r + 1) ≤ least (first_of h2 (r + 1)) test) →
        place_below (first_of h2 (r + 1)) (least (first_of h2 (r + 1)) test) ≡ place_below (count h2) (least (count h2) test)
    go (inl l) =
        let p : ℕ = least (first_of h2 (r + 1)) test in
        let w : p < count h2 = omega (arith, l, first_within h2 up (r + 1)) in
        let first : least (count h2) test ≡ p =
        least_found test (count h2) w (least_no test p (λ j h. least_before test (first_of h2 (r + 1)) h)) (least_passes test (first_of h2 (r + 1)) l) in
        rw (first, lt-ltb p (first_of h2 (r + 1)) l, lt-ltb p (count h2) w)
    go (inr l) =
        rw (le-ltb (least (first_of h2 (r + 1)) test) (first_of h2 (r + 1)) l, least_no test (count h2) (none l), le-ltb (count h2) (count h2) (le_refl (count h2)))

  -- the count, once it is past the hops of r
  pub count_ends : {j x : ℕ} → first_of h2 (r + 1) ≤ j → j ≤ count h2 → x ≡ tally j test → x ≡ tally (count h2) test
  count_ends past within e = e ∙ sym (tally_rest test (count h2) within (λ i lo l. none_after (omega arith) l))
