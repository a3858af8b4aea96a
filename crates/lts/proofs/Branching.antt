-- Branching bisimulations as relations (van Glabbeek and Weijland), from maps that keep branching
-- bisimilarity on all numbers. Assumes nothing.
use Prim.Native.Nat.{ℕ}
use mathlib.Core.Path.{◌≡◌, refl, sym, ◌∙◌}
use mathlib.Core.Logic.{◌⊎◌, inl, inr}
use Rattle.lts.specs.Star.{stay, Joined}
use Rattle.lts.specs.Internal.Reduction.{Confluent, NormalForms, MatchedBack, Reduces}
use Rattle.lts.specs.Internal.Branching.{MatchedBy, Simulates, Branching}
use Rattle.lts.proofs.Confluence.{joined→rep, rep→joined}
use Rattle.lts.proofs.Renumbered.{quotient_renumbered, renumbered_reduces}

-- for one relation another that says the same
module _ (Hop1 Hop2 : ℕ → ℕ → ℕ → Type 0) (R Q : ℕ → ℕ → Type 0) (f : (s n : ℕ) → R s n → Q s n) (g : (s n : ℕ) → Q s n → R s n) where
  pub Simulates·map : Simulates Hop1 Hop2 R → Simulates Hop1 Hop2 Q
  Simulates·map F s n q a t h = on (F s n (g s n q) a t h)
    where
      on : MatchedBy Hop2 R s n a t → MatchedBy Hop2 Q s n a t
      on (inl (z, r)) = inl (z, f t n r)
      on (inr (u, x, nu, r, k, d)) = inr (u, x, nu, f s u r, k, f t x d)

module _ {Hop1 Hop2 : ℕ → ℕ → ℕ → Type 0} {f : ℕ → ℕ} (F : Reduces (λ _. Unit {0}) Hop1 Hop2 f) where
  -- a state and its image are branching bisimilar
  pub image_branching : Branching Hop1 Hop2 (λ s n. f s ≡ n)
  image_branching = record {
    there = λ s n e a t h. there s n e a t (F.fore s a t h);
    again = λ n s e a q h. again n s e a q (F.back s a q tt (rw e h));
  }
    where
      there : (s n : ℕ) → f s ≡ n → (a t : ℕ) → ((a ≡ 0) × (f s ≡ f t)) ⊎ Hop2 (f s) a (f t) → MatchedBy Hop2 (λ s n. f s ≡ n) s n a t
      there s n e a t (inl (z, d)) = inl (z, sym d ∙ e)
      there s n e a t (inr h) = inr (n, f t, stay, e, rw e at h, refl)

      again : (n s : ℕ) → f s ≡ n → (a q : ℕ) → ((a ≡ 0) × (f s ≡ q)) ⊎ MatchedBack Hop1 f s a q → MatchedBy Hop1 (λ n s. f s ≡ n) n s a q
      again n s e a q (inl x) = inl x
      again n s e a q (inr (u, t, su, d, h, x)) = inr (u, t, su, d ∙ e, h, x)

  -- two states of one image are branching bisimilar
  abbrev Fibre : ℕ → ℕ → Type 0
  Fibre s n = f s ≡ f n

  fibre_follows : Simulates Hop1 Hop1 Fibre
  fibre_follows s n e a t h = on (F.fore s a t h)
    where
      met : ((a ≡ 0) × (f n ≡ f t)) ⊎ MatchedBack Hop1 f n a (f t) → MatchedBy Hop1 Fibre s n a t
      met (inl (z, d)) = inl (z, sym d)
      met (inr (u, q, nu, d, k, x)) = inr (u, q, nu, e ∙ sym d, k, sym x)

      on : ((a ≡ 0) × (f s ≡ f t)) ⊎ Hop2 (f s) a (f t) → MatchedBy Hop1 Fibre s n a t
      on (inl (z, d)) = inl (z, sym d ∙ e)
      on (inr k) = met (F.back n a (f t) tt (rw e at k))

  pub fibre_branching : Branching Hop1 Hop1 Fibre
  fibre_branching = record {
    there = fibre_follows;
    again = Simulates·map Hop1 Hop1 Fibre (λ n s. f s ≡ f n) (λ s n. sym) (λ s n. sym) fibre_follows;
  }

-- states joined by hops of a confluent set are branching bisimilar
pub joined_branching : {Hop : ℕ → ℕ → ℕ → Type 0} {U : ℕ → ℕ → Type 0} {rep : ℕ → ℕ} → Confluent Hop U → NormalForms U rep → Branching Hop Hop (Joined U)
joined_branching {Hop} {U} {rep} c r =
    let b = fibre_branching (renumbered_reduces c r (quotient_renumbered c r)) in
    record {
      there = Simulates·map Hop Hop (λ s n. rep s ≡ rep n) (Joined U) (rep→joined c r) (λ s n. joined→rep c r) b.there;
      again = Simulates·map Hop Hop (λ n s. rep s ≡ rep n) (λ n s. Joined U s n) (λ n s. rep→joined c r s n) (λ n s. joined→rep c r) b.again;
    }
