-- Rounds of a monotone operator F on a set b. What a round leaves is within what the one before
-- left. After as many rounds as b has pairs nothing changes any more: after a round without change
-- there is no other change, and every other round removes a pair. What is left is the greatest set
-- that F keeps. Assumes nothing.
use Prim.Native.Nat.{ℕ, zero, suc, ◌+◌, ◌<◌}
use mathlib.Core.Path.{◌≡◌, refl, sym, ◌∙◌}
use mathlib.Core.Bool.{Bool, true, ◌&&◌}
use native.Mathlib.Omega.{arith}
use Rattle.std.proofs.lemmas.Bool.{and_from, and_parts}
use Rattle.base_bounded.proofs.Bools.{same_test}
use Rattle.base_bounded.proofs.Chains.{Still, same_from}
use Rattle.base_fixpoint.specs.Pairs.{Pairs, In, Subset}
use Rattle.base_fixpoint.specs.Internal.Pairs.{AtMostPairs}
use Rattle.base_fixpoint.specs.Approximants.{Operator, approximant}
use Rattle.base_fixpoint.specs.Internal.Approximants.{Monotone, PostFixed}

module _ (F : Operator) (b : Pairs) where
  -- the two equations of the definition
  pub approximant_none : (s t : ℕ) → approximant F b 0 s t ≡ b s t
  unfolding approximant
  approximant_none s t = refl

  pub approximant_more : (k s t : ℕ) → approximant F b (suc k) s t ≡ (b s t && F (approximant F b k) s t)
  unfolding approximant
  approximant_more k s t = refl

  -- what is left was there
  pub approximant_within : (k : ℕ) → Subset (In (approximant F b k)) (In b)
  approximant_within zero s t e = sym (approximant_none s t) ∙ e
  approximant_within (suc k) s t e = (and_parts (b s t) (F (approximant F b k) s t) (sym (approximant_more k s t) ∙ e)).0

  pub approximant_meets : (k : ℕ) → Subset (In (approximant F b (suc k))) (In (F (approximant F b k)))
  approximant_meets k s t e = (and_parts (b s t) (F (approximant F b k) s t) (sym (approximant_more k s t) ∙ e)).1

  pub approximant_yes : (k s t : ℕ) → b s t ≡ true → F (approximant F b k) s t ≡ true → approximant F b (suc k) s t ≡ true
  approximant_yes k s t h c = approximant_more k s t ∙ and_from _ _ h c

  -- a set within b that F keeps is left after every number of rounds
  pub post_fixed_approximant : {U : ℕ → ℕ → Type 0} → Subset U (In b) → PostFixed F U → (k : ℕ) → Subset U (In (approximant F b k))
  post_fixed_approximant w f zero s t m = approximant_none s t ∙ w s t m
  post_fixed_approximant w f (suc k) s t m = approximant_yes k s t (w s t m) (f (approximant F b k) (post_fixed_approximant w f k) s t m)

  module _ (mono : Monotone F) where
    -- one round more leaves more where there was more
    step : (j k : ℕ) → Subset (In (approximant F b j)) (In (approximant F b k)) → Subset (In (approximant F b (suc j))) (In (approximant F b (suc k)))
    step j k f s t e = approximant_yes k s t (approximant_within (suc j) s t e) (mono (approximant F b j) (approximant F b k) f s t (approximant_meets j s t e))

    pub approximant_falls : (k : ℕ) → Subset (In (approximant F b (suc k))) (In (approximant F b k))
    approximant_falls zero s t e = approximant_none s t ∙ approximant_within 1 s t e
    approximant_falls (suc k) s t e = step (suc k) k (approximant_falls k) s t e

    module _ {n : ℕ} (ls : AtMostPairs b n) where
      -- the rounds as a chain of sets of places
      abbrev chain : ℕ → ℕ → Bool
      chain k i = approximant F b k (ls.first i) (ls.second i)

      -- what a set of places says of the pairs themselves
      by_places : (j k : ℕ) → ((i : ℕ) → i < n → chain j i ≡ chain k i) → Subset (In (approximant F b j)) (In (approximant F b k))
      by_places j k f s t e =
          let (i, l, p, q) = ls.place s t (approximant_within j s t e) in
          let there : chain j i ≡ true = rw (p, q) e in
          rw (p, q) at (sym (f i l) ∙ there)

      rests : (k : ℕ) → Still n chain k → Still n chain (suc k)
      rests k h i l =
          same_test (chain (suc k) i) (chain (suc (suc k)) i) (step k (suc k) (by_places k (suc k) h) (ls.first i) (ls.second i))
          (approximant_falls (suc k) (ls.first i) (ls.second i))

      -- from as many rounds as pairs on, nothing falls
      pub approximant_rests : (m s t : ℕ) → approximant F b n s t ≡ approximant F b (m + n) s t
      approximant_rests m s t =
          same_test (approximant F b n s t) (approximant F b (m + n) s t)
          (by_places n (m + n) same s t)
          (by_places (m + n) n (λ i l. sym (same i l)) s t) where
            same : (i : ℕ) → i < n → chain n i ≡ chain (m + n) i
            same = same_from n chain (λ k i l. approximant_falls k (ls.first i) (ls.second i)) rests m

      -- so one round more changes nothing
      pub approximant_fixed : (s t : ℕ) → approximant F b n s t ≡ (b s t && F (approximant F b n) s t)
      approximant_fixed s t = (rw one_more at (approximant_rests 1 s t)) ∙ approximant_more n s t where
        one_more : 1 + n ≡ suc n
        one_more = omega arith

      -- each pair left meets the condition with any set that holds them all
      pub approximant_post_fixed : PostFixed F (In (approximant F b n))
      approximant_post_fixed v f s t e =
          mono (approximant F b n) v f s t (and_parts (b s t) (F (approximant F b n) s t) (sym (approximant_fixed s t) ∙ e)).1

      -- and what is left is the greatest set within b of which that can be said
      pub approximant_greatest : {U : ℕ → ℕ → Type 0} → Subset U (In b) → PostFixed F U → Subset U (In (approximant F b n))
      approximant_greatest w f = post_fixed_approximant w f n

      -- it is what every number of rounds leaves
      pub approximant_every : (s t : ℕ) →
          (approximant F b n s t ≡ true → (k : ℕ) → approximant F b k s t ≡ true) × (((k : ℕ) → approximant F b k s t ≡ true) → approximant F b n s t ≡ true)
      approximant_every s t = ((λ e k. post_fixed_approximant (approximant_within n) approximant_post_fixed k s t e), (λ f. f n))

      -- a set between what is left and b, each of whose pairs meets the condition with it, is what
      -- is left. So pairs may be removed in any order: if none that is left is removed, and in the
      -- end each pair meets the condition, the end is the same
      pub approximant_same : (v : Pairs) → Subset (In v) (In b) → Subset (In v) (In (F v)) → Subset (In (approximant F b n)) (In v) → v ≡ approximant F b n
      approximant_same v w f g = λ k s t. same_test (v s t) (approximant F b n s t) (approximant_greatest w (λ x h s t e. mono v x h s t (f s t e)) s t) (g s t) k
