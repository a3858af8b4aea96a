-- Maps of graphs that keep branching bisimilarity, each said of the states of its first graph,
-- compose. Assumes nothing.
use Prim.Native.Nat.{ℕ}
use mathlib.Core.Path.{◌≡◌, refl, ap}
use mathlib.Core.Logic.{◌⊎◌, inl, inr}
use Rattle.lts.specs.Star.{Star, stay, go}
use Rattle.lts.specs.Internal.Sense.{Silent}
use Rattle.lts.specs.Internal.Reduction.{MatchedBack, Reduces}
use Rattle.lts.proofs.Star.{join}

-- T5. Every hop of graph 1 ends in D1, and f leads from D1 into D2.
module _
    {D1 D2 : ℕ → Type 0} {Hop1 Hop2 Hop3 : ℕ → ℕ → ℕ → Type 0} {f g : ℕ → ℕ}
    (ends : (s a t : ℕ) → Hop1 s a t → D1 t)
    (into : (s : ℕ) → D1 s → D2 (f s))
    (F : Reduces D1 Hop1 Hop2 f)
    (G : Reduces D2 Hop2 Hop3 g)
  where
    abbrev Lifted : ℕ → ℕ → Type 0
    Lifted s y = (u : ℕ) × Star (Silent Hop1) s u × (f u ≡ y) × D1 u

    -- silent hops of graph 2 that leave f s are lifted to graph 1
    lift : {x y : ℕ} → Star (Silent Hop2) x y → (s : ℕ) → D1 s → f s ≡ x → Lifted s y
    lift stay s d e = (s, stay, e, d)
    lift {y = y} (go {m = m} h p) s d e = on (lift p) (F.back s 0 m d (rw e h))
      where
        on : ((s : ℕ) → D1 s → f s ≡ m → Lifted s y) → ((◌≡◌ {A = ℕ} 0 0) × (f s ≡ m)) ⊎ MatchedBack Hop1 f s 0 m → Lifted s y
        on ih (inl (_, e)) = ih s d e
        on ih (inr (v, t, sv, _, k, e)) = let (u, tu, c, b) = ih t (ends v 0 t k) e in (u, join sv (go k tu), c, b)

    fore_on : (s a t : ℕ) → ((a ≡ 0) × (f s ≡ f t)) ⊎ Hop2 (f s) a (f t) → ((a ≡ 0) × (g (f s) ≡ g (f t))) ⊎ Hop3 (g (f s)) a (g (f t))
    fore_on s a t (inl (z, e)) = inl (z, ap g e)
    fore_on s a t (inr h) = G.fore (f s) a (f t) h

    back_on : (s a q : ℕ) → D1 s → ((a ≡ 0) × (g (f s) ≡ q)) ⊎ MatchedBack Hop2 g (f s) a q → ((a ≡ 0) × (g (f s) ≡ q)) ⊎ MatchedBack Hop1 (λ x. g (f x)) s a q
    back_on s a q d (inl x) = inl x
    back_on s a q d (inr (u, t, su, e, h, c)) = on (lift su s d refl)
      where
        on : Lifted s u → ((a ≡ 0) × (g (f s) ≡ q)) ⊎ MatchedBack Hop1 (λ x. g (f x)) s a q
        on (v, sv, i, b) = last (F.back v a t b (rw i h))
          where
            last : ((a ≡ 0) × (f v ≡ t)) ⊎ MatchedBack Hop1 f v a t → ((a ≡ 0) × (g (f s) ≡ q)) ⊎ MatchedBack Hop1 (λ x. g (f x)) s a q
            last (inl (z, j)) = inl (z, cc)
            last (inr (w, x, vw, j, k, l)) = inr (w, x, join sv vw, cc, k, cc)

    pub reduces_compose : Reduces D1 Hop1 Hop3 (λ s. g (f s))
    reduces_compose = record { fore = λ s a t h. fore_on s a t (F.fore s a t h); back = λ s a q d h. back_on s a q d (G.back (f s) a q (into s d) h) }

-- the identity is such a map from a graph to itself
pub Reduces·refl : {D : ℕ → Type 0} {Hop : ℕ → ℕ → ℕ → Type 0} → Reduces D Hop Hop (λ s. s)
Reduces·refl = record { fore = λ s a t h. inr h; back = λ s a q d h. inr (s, q, stay, refl, h, refl) }
