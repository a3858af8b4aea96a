-- The hops that get no stamp from s are those that s does not match: where all stamps are below k
-- at first, those equal to k afterwards are the new ones. And the third sum, by states. Assumes
-- nothing.
use Prim.Native.Nat.{ℕ, ◌+◌, ◌*◌, ◌<◌, ◌≤◌}
use mathlib.Core.Path.{◌≡◌, refl, sym, ap, ◌∙◌}
use mathlib.Core.Bool.{Bool, true, false, cond, not, ◌&&◌, ◌||◌}
use mathlib.Core.List.{List, ◌++◌}
use mathlib.Core.Logic.{◌⊎◌, inl, inr}
use native.Mathlib.Nat.{mul-le-mul}
use native.Mathlib.Omega.{arith}
use borrow.Author.Tests.{eq-eqb, eqb-true}
use lib.ListN.{get_or, replicate, get_or-replicate}
use lib.Dec.{eqb}
use Rattle.std.proofs.lemmas.Bool.Decides.{nat_tests}
use Rattle.std.proofs.lemmas.Bool.{and_from, and_parts, cases_Bool}
use Rattle.base_bounded.specs.Quantifiers.{any, least, tally, total}
use Rattle.graph.specs.Hops.{count, from, label, to}
use Rattle.graph.specs.Answers.{most_states, most_hops}
use Rattle.graph_check.specs.Check.{InRange}
use Rattle.graph.specs.declared.Shape.{Shape}
use Rattle.base_bounded.proofs.Bools.{same_test}
use Rattle.base_bounded.proofs.Quantifiers.{any_found, any_at, tally_same, tally_within, total_most, total_exchange}
use Rattle.base_bounded.proofs.Least.{least_same}
use Rattle.graph.proofs.Places.{is_yes, is_label, is_to}
use Rattle.walk_silent.specs.Silent.{silent_at, leads}
use Rattle.walk_silent.proofs.Leads.{visited_leads}
use Rattle.walk_reach.specs.Internal.Reach.{chosen_in, Chooses}
use Rattle.walk_reach.specs.Internal.Frontier.{visited, reached_flags}
use Rattle.graph.specs.Map.{mapped}
use Rattle.audit_faults.specs.Faults.{match_at, matched_from, matched, unmatched, unmatched_faults}
use Rattle.audit_matched.specs.Internal.Stamps.{seen_in_class, stamps_hop, StampedUpTo}
use Rattle.audit_unmatched.specs.Internal.States.{unstamped, Fresh, unmatched_of, unmatched_place_of}

module _ (sh1 : Shape) (h1 h2 m : List ℕ) (ranged : InRange sh1 h1) (flags : List Bool) (silent : Chooses h1 (silent_at h1) flags) (s : ℕ) (rest : List Bool) (j : ℕ)
    (leaving : mapped m s ≡ from h2 j) where
  abbrev seen_from : List Bool
  seen_from = reached_flags h1 (chosen_in flags) sh1.states s ++ rest

  abbrev offer : ℕ → ℕ → Bool
  offer u i = eqb (from h1 i) u && (eqb (label h1 i) (label h2 j) && eqb (mapped m (to h1 i)) (to h2 j))

  -- the hop at place j is stamped exactly when s matches it
  stamped_matched : any (count h1) (stamps_hop h1 h2 m seen_from (mapped m s) j) ≡ matched_from sh1 h1 m s (from h2 j) (label h2 j) (to h2 j)
  unfolding stamps_hop seen_in_class matched_from match_at
  stamped_matched =
      same_test (any (count h1) (stamps_hop h1 h2 m seen_from (mapped m s) j)) (matched_from sh1 h1 m s (from h2 j) (label h2 j) (to h2 j)) there back where
        there : any (count h1) (stamps_hop h1 h2 m seen_from (mapped m s) j) ≡ true → matched_from sh1 h1 m s (from h2 j) (label h2 j) (to h2 j) ≡ true
        there e =
            let (i, l, t) = any_at (stamps_hop h1 h2 m seen_from (mapped m s) j) (count h1) e in
            let v = (and_parts (seen_in_class h1 m seen_from (mapped m s) i) _ t).0 in
            let w = (and_parts (seen_in_class h1 m seen_from (mapped m s) i) _ t).1 in
            let below = ranged.from_in i l in
            any_found (λ (u : ℕ). leads h1 sh1.states s u && match_at h1 m (from h2 j) (label h2 j) (to h2 j) u) sh1.states below
            (and_from _ _ (sym (visited_leads h1 flags silent sh1.states s rest below) ∙ (and_parts (visited seen_from (from h1 i)) _ v).0) (and_from _ _ (eq-eqb _ _ (eqb-true _ _ (and_parts (visited seen_from (from h1 i)) _ v).1 ∙ leaving)) (any_found (offer (from h1 i)) (count h1) l
            (and_from _ _ (eq-eqb (from h1 i) (from h1 i) refl) (and_from _ _ (eq-eqb _ _ (sym (is_label h2 (mapped m s) (label h1 i) (mapped m (to h1 i)) j w))) (eq-eqb _ _ (sym (is_to h2 (mapped m s) (label h1 i) (mapped m (to h1 i)) j w))))))))

        back : matched_from sh1 h1 m s (from h2 j) (label h2 j) (to h2 j) ≡ true → any (count h1) (stamps_hop h1 h2 m seen_from (mapped m s) j) ≡ true
        back e =
            let (u, b, d) = any_at (λ (u : ℕ). leads h1 sh1.states s u && match_at h1 m (from h2 j) (label h2 j) (to h2 j) u) sh1.states e in
            let o = (and_parts (leads h1 sh1.states s u) _ d).1 in
            let (i, l, f) = any_at (offer u) (count h1) (and_parts (eqb (mapped m u) (from h2 j)) _ o).1 in
            let g = (and_parts (eqb (from h1 i) u) _ f).1 in
            let q : from h1 i ≡ u = eqb-true _ _ (and_parts (eqb (from h1 i) u) _ f).0 in
            any_found (stamps_hop h1 h2 m seen_from (mapped m s) j) (count h1) l
            (and_from _ _ (and_from _ _ (ap (visited seen_from) q ∙ visited_leads h1 flags silent sh1.states s rest b ∙ (and_parts (leads h1 sh1.states s u) _ d).0) (eq-eqb _ _ (ap (mapped m) q ∙ eqb-true _ _ (and_parts (eqb (mapped m u) (from h2 j)) _ o).0 ∙ sym leaving))) (is_yes h2 (mapped m s) (label h1 i) (mapped m (to h1 i)) j (sym leaving) (sym (eqb-true _ _ (and_parts (eqb (label h1 i) (label h2 j)) _ g).0))
            (sym (eqb-true _ _ (and_parts (eqb (label h1 i) (label h2 j)) _ g).1))))

-- a fresh stamp stands where it was set, and nowhere else
stamp_result : (x : Bool) (k b : ℕ) → b < k → eqb (cond x k b) k ≡ x
stamp_result x k b l = grind (arith, nat_tests)

-- r is the map of s, and `seen` what the search from s left: then the count of the unstamped hops
-- is the count of the faults of s
module _ (sh1 : Shape) (h1 h2 m : List ℕ) (ranged : InRange sh1 h1) (flags : List Bool) (silent : Chooses h1 (silent_at h1) flags) (s : ℕ) (rest : List Bool) {r : ℕ}
    (er : r ≡ mapped m s) {seen : List Bool} (es : seen ≡ reached_flags h1 (chosen_in flags) sh1.states s ++ rest) (before after : List ℕ) (ticked : StampedUpTo h1 h2 m seen r (s + 1) (count h1) before after)
    (fresh : Fresh h2 before (s + 1)) where
  abbrev hits : ℕ → Bool
  hits j = any (count h1) (stamps_hop h1 h2 m (reached_flags h1 (chosen_in flags) sh1.states s ++ rest) (mapped m s) j)

  abbrev loop : ℕ → Bool
  loop j = eqb (label h2 j) 0 && eqb (from h2 j) (to h2 j)

  stamped : (j : ℕ) → j < count h2 → get_or after j 0 ≡ cond (hits j) (s + 1) (get_or before j 0)
  unfolding StampedUpTo
  stamped j l = rw (er, es) at (ticked j l)

  unstamped_unmatched : (j : ℕ) → j < count h2 → unstamped h2 after r (s + 1) j ≡ unmatched sh1 h1 h2 m j s
  unfolding unstamped unmatched matched Fresh
  unstamped_unmatched j l = rw er (go (cases_Bool (eqb (mapped m s) (from h2 j)))) where
    go : (eqb (mapped m s) (from h2 j) ≡ true) ⊎ (eqb (mapped m s) (from h2 j) ≡ false) →
        (eqb (mapped m s) (from h2 j) && not (loop j || eqb (get_or after j 0) (s + 1))) ≡
        (eqb (mapped m s) (from h2 j) && not (loop j || matched_from sh1 h1 m s (from h2 j) (label h2 j) (to h2 j)))
    go (inl e) =
        ap (λ (x : Bool). eqb (mapped m s) (from h2 j) && not (loop j || x))
        (ap (λ (b : ℕ). eqb b (s + 1)) (stamped j l) ∙ stamp_result (hits j) (s + 1) (get_or before j 0) (fresh j l) ∙
        stamped_matched sh1 h1 h2 m ranged flags silent s rest j (eqb-true _ _ e))
    go (inr e) = rw e

  pub counted_unmatched : {x : ℕ} → x ≡ tally (count h2) (unstamped h2 after r (s + 1)) → x ≡ unmatched_of sh1 h1 h2 m s
  unfolding unmatched_of
  counted_unmatched e = e ∙ tally_same (unstamped h2 after r (s + 1)) (λ (j : ℕ). unmatched sh1 h1 h2 m j s) (count h2) unstamped_unmatched

  pub first_unmatched_lem : {x : ℕ} → x ≡ least (count h2) (unstamped h2 after r (s + 1)) → x ≡ unmatched_place_of sh1 h1 h2 m s
  unfolding unmatched_place_of
  first_unmatched_lem e = e ∙ least_same (unstamped h2 after r (s + 1)) (λ (j : ℕ). unmatched sh1 h1 h2 m j s) (count h2) unstamped_unmatched

  -- the next stamp is fresh
  pub fresh_next : Fresh h2 after (s + 1 + 1)
  unfolding Fresh
  fresh_next j l = rw (stamped j l) (go (hits j) (fresh j l)) where
    go : (x : Bool) → get_or before j 0 < s + 1 → cond x (s + 1) (get_or before j 0) < s + 1 + 1
    go true h = omega arith
    go false h = omega arith

-- stamps that are all 0 are fresh for 1
pub fresh_start : (h2 : List ℕ) (n : ℕ) → count h2 ≤ n → Fresh h2 (replicate n 0) 1
unfolding Fresh
fresh_start h2 n capacity j l = rw (get_or-replicate {A = ℕ} n j 0 0 (omega arith)) (omega arith)

-- the third sum by states
module _ (sh1 : Shape) (h1 h2 m : List ℕ) where
  pub by_states : total sh1.states (unmatched_of sh1 h1 h2 m) ≡ unmatched_faults sh1 h1 h2 m
  unfolding unmatched_faults unmatched_of
  by_states = sym (total_exchange (unmatched sh1 h1 h2 m) (count h2) sh1.states)

  unmatched_of_most : (s : ℕ) → unmatched_of sh1 h1 h2 m s ≤ count h2
  unfolding unmatched_of
  unmatched_of_most s = tally_within (λ (j : ℕ). unmatched sh1 h1 h2 m j s) (count h2)

  -- a sum over some of the states, and one more, fits
  pub partial_most : (s : ℕ) → s ≤ most_states → count h2 ≤ most_hops →
      total s (unmatched_of sh1 h1 h2 m) + unmatched_of sh1 h1 h2 m s ≤ most_states * most_hops + most_hops
  partial_most s l k =
      let most : total s (unmatched_of sh1 h1 h2 m) ≤ s * count h2 = total_most (unmatched_of sh1 h1 h2 m) (count h2) s (λ j h. unmatched_of_most j) in
      let pairs : s * count h2 ≤ most_states * most_hops = mul-le-mul l k in
      omega (arith, unmatched_of_most s)
