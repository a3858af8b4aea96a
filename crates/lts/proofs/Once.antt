-- Under R8 one reduction is enough. U is the greatest set of R8: what is left has no hop in any set
-- of R8. Such a set, joined with U, would be one of R8 in the first graph, since its walks are
-- lifted; so it would lie in U, and no hop of U leaves a representative. Assumes nothing.
use Prim.Native.Nat.{ℕ}
use mathlib.Core.Path.{◌≡◌, refl, sym, ◌∙◌, subst}
use mathlib.Core.Logic.{◌⊎◌, inl, inr}
use Rattle.lts.specs.Star.{Star, stay, go}
use Rattle.lts.specs.Sense.{HopOrStay}
use Rattle.lts.specs.Closes.{walk, r8, Answered, Closes, ConfluentIn}
use Rattle.lts.specs.Internal.Closes.{Greatest}
use Rattle.lts.specs.Internal.Reduction.{NormalForms}
use Rattle.lts.specs.Internal.Renumbered.{Renumbered}
use Rattle.lts.proofs.Star.{join, star_mono}
use Rattle.lts.proofs.Closes.{via_walk, closes_in_mono}

module _
    {Hop Hop2 : ℕ → ℕ → ℕ → Type 0} {U W : ℕ → ℕ → Type 0} {rep f : ℕ → ℕ}
    (marked : ConfluentIn r8 Hop U)
    (rests : NormalForms U rep)
    (left : Renumbered Hop rep Hop2 f)
    (again : ConfluentIn r8 Hop2 W)
  where
    -- U, and the silent hops of representatives that W has in graph 2
    abbrev Both : ℕ → ℕ → Type 0
    Both s t = U s t ⊎ ((rep s ≡ s) × Hop s 0 t × W (f s) (f t))

    down : (s : ℕ) → Star Both s (rep s)
    down s = star_mono (λ _ _ u. inl u) (rests.down s)

    -- a hop of W that leaves the image of s is one of the representative of s
    own : (s m : ℕ) → W (f s) m → (t : ℕ) × Both (rep s) t × (f t ≡ m)
    own s m w =
        let (t, h, e) = left.back s 0 m (again.silent (f s) m w) in
        (t, inr (left.other (rep s) s (left.same s), h, rw (left.same s, e) w), e)

    abbrev Lifted : ℕ → ℕ → Type 0
    Lifted s m = (t : ℕ) × Star Both s (rep t) × (f t ≡ m)

    lift : {n m : ℕ} → Star W n m → (s : ℕ) → f s ≡ n → Lifted s m
    lift stay s e = (s, down s, e)
    lift (go {m = m} w p) s e =
        let (t, b, d) = own s m (rw e w) in
        let (u, q, c) = lift p t d in
        (u, join (down s) (go b q), c)

    -- an answer of the image of s is one of the representative of s
    answer : {p a q : ℕ} (s : ℕ) → f s ≡ p → HopOrStay Hop2 W p a q → (t : ℕ) × HopOrStay Hop Both (rep s) a t × (f t ≡ q)
    answer {a = a} {q = q} s e (inl h) = let (t, k, d) = left.back s a q (rw e h) in (t, inl k, d)
    answer s e (inr (z, d)) = (rep s, inr (z, refl), left.same s ∙ e ∙ sym d)

    both_answers : (s2 a s3 : ℕ) → Answered r8 Hop2 W (f s2) a (f s3) → Answered r8 Hop Both s2 a s3
    both_answers s2 a s3 (p, q, s4, x, y, z, w) =
        let (u, su, e) = lift (via_walk x) s2 refl in
        let (t, k, d) = answer u e y in
        let (v, sv, c) = lift (via_walk z) t d in
        let (o, so, b) = lift (via_walk w) s3 refl in
        (rep u, t, rep v, walk su, k, walk sv, walk (subst (Star Both s3) (left.other o v (b ∙ sym c)) so))

    both_set : ConfluentIn r8 Hop Both
    both_set = record { silent = silent; closed = closed } where
      silent : (s t : ℕ) → Both s t → Hop s 0 t
      silent s t (inl u) = marked.silent s t u
      silent s t (inr (_, h, _)) = h

      closed : (s t : ℕ) → Both s t → Closes r8 Hop Both s t
      closed s t (inl u) = closes_in_mono (λ _ _ v. inl v) (marked.closed s t u)
      closed s t (inr (e, _, w)) = λ a s3 h. both_answers t a s3 (again.closed (f s) (f t) w a (f s3) (left.fore s a s3 (rw e h)))

    pub once : Greatest r8 Hop U → (s m : ℕ) → W (f s) m → ⊥
    once greatest s m w = let (t, b, _) = own s m w in rests.rest s t (greatest Both both_set (rep s) t b)
