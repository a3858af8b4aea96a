-- What a reduction by a confluent set leaves, numbered anew: the map to it keeps branching
-- bisimilarity, and it has no silent ring, so that it can be reduced again. Assumes nothing.
use Prim.Native.Nat.{ℕ, ◌≤◌, ◌<◌}
use native.Mathlib.Omega.{arith}
use mathlib.Core.Path.{◌≡◌, refl, sym, ap, ◌∙◌}
use mathlib.Core.Logic.{◌⊎◌, inl, inr}
use Rattle.lts.specs.Star.{Star, stay, go}
use Rattle.lts.specs.Internal.Sense.{Silent}
use Rattle.lts.specs.Internal.Reduction.{Confluent, NormalForms, QuotientHop, Reduces}
use Rattle.lts.specs.Internal.Renumbered.{Renumbered}
use Rattle.lts.proofs.Star.{star_mono}
use Rattle.lts.proofs.Confluence.{Meets, forward, rep_normal, quotient_rank_falls}

module _ {Hop : ℕ → ℕ → ℕ → Type 0} {U : ℕ → ℕ → Type 0} {rep : ℕ → ℕ} (conf : Confluent Hop U) (rests : NormalForms U rep) where
  open conf use {silent, rank}

  -- the representatives with their old numbers
  pub quotient_renumbered : Renumbered Hop rep (QuotientHop Hop rep) rep
  quotient_renumbered = record {
    same = λ s. rep_normal conf rests (rests.rest s);
    other = λ s t e. e;
    fore = λ s a t h. (t, h, refl);
    back = λ s a q h. h;
  }

  module _ {Hop2 : ℕ → ℕ → ℕ → Type 0} {f : ℕ → ℕ} (left : Renumbered Hop rep Hop2 f) where
    -- T3 in this form
    pub renumbered_reduces : {D : ℕ → Type 0} → Reduces D Hop Hop2 f
    renumbered_reduces = record {
      fore = λ s a t h. fore_on s a t (forward conf rests s a t h);
      back = λ s a q d h. let (t, k, e) = left.back s a q h in inr (rep s, t, star_mono silent (rests.down s), left.same s, k, e);
    }
      where
        level : {s t : ℕ} → rep s ≡ rep t → f s ≡ f t
        level {s} {t} e = sym (left.same s) ∙ ap f e ∙ left.same t

        fore_on : (s a t : ℕ) → Meets Hop rep s a t → ((a ≡ 0) × (f s ≡ f t)) ⊎ Hop2 (f s) a (f t)
        fore_on s a t (inl (z, e)) = inl (z, level e)
        fore_on s a t (inr (u, k, e)) = inr (rw (← level e) (left.fore s a u k))

    -- the rank of the representative falls along the silent hops of what is left
    left_falls : (s m : ℕ) → Hop2 (f s) 0 m → (t : ℕ) × (f t ≡ m) × (rank (rep t) < rank (rep s))
    left_falls s m h = let (t, k, e) = left.back s 0 m h in (t, e, quotient_rank_falls conf rests (rep s) (rep t) (t, k, refl))

    left_sinks : {n m : ℕ} → Star (Silent Hop2) n m → (s t : ℕ) → f s ≡ n → f t ≡ m → rank (rep t) ≤ rank (rep s)
    left_sinks stay s t d e = rw (left.other s t (d ∙ sym e)) (omega arith)
    left_sinks (go {m = m} h p) s t d e = let (u, c, l) = left_falls s m (rw d h) in omega (arith, left_sinks p u t c e)

    -- no silent hop of an image leads to a state that leads back to it
    pub renumbered_acyclic : (s m : ℕ) → Hop2 (f s) 0 m → Star (Silent Hop2) m (f s) → ⊥
    renumbered_acyclic s m h p = let (t, e, l) = left_falls s m h in omega (arith, left_sinks p t s e refl)
