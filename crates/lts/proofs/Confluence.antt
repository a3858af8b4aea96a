-- Reduction by silent confluence. U, a set of silent hops, is weakly confluent, and no ring of
-- silent hops is there: `Confluent Hop U`.
--     T1  `rep`: every state comes by hops of U to a state that none leaves (`rep_rests`)
--     T2  it comes to one such state only (`unique`): the states joined by hops of U are those of
--         one `rep` (`joined_iff`), and one of them is normal (`class`)
--     T3  a state and its `rep` are branching bisimilar (`forward`, `backward`)
-- T2 and T3 hold of any map to such states (`NormalForms U rep`), however it is found: by
-- uniqueness there is only one (`rep_only`). Assumes nothing.
use Prim.Native.Nat.{ℕ, zero, suc, ◌≤◌, ◌<◌}
use native.Mathlib.Omega.{arith}
use mathlib.Core.Path.{◌≡◌, refl, sym, ◌∙◌, subst}
use mathlib.Core.Logic.{◌⊎◌, inl, inr, ◌↔◌}
use Rattle.lts.specs.Star.{Star, stay, go, Joined, same, fore, back}
use Rattle.lts.specs.Sense.{Normal}
use Rattle.lts.specs.Internal.Sense.{Silent}
use Rattle.lts.specs.Internal.Reduction.{Confluent, NormalForms, StepOrNormal, QuotientHop}
use Rattle.lts.proofs.Star.{first, star_mono, star→joined, Joined·join, Joined·sym}

-- a hop of s labelled a to t is answered by none, or by one of `rep s` that is kept
abbrev pub Meets : (ℕ → ℕ → ℕ → Type 0) → (ℕ → ℕ) → ℕ → ℕ → ℕ → Type 0
Meets Hop rep s a t = ((a ≡ 0) × (rep s ≡ rep t)) ⊎ QuotientHop Hop rep (rep s) a (rep t)

-- Induction by a rank.
module _ (rank : ℕ → ℕ) (Q : ℕ → Type 0) (step : (s : ℕ) → ((d : ℕ) → rank d < rank s → Q d) → Q s) where
  under : (k s : ℕ) → rank s < k → Q s
  under zero s lt = absurd (omega arith)
  under (suc k) s lt = step s (λ d l. under k d (omega arith))

  by_rank : (s : ℕ) → Q s
  by_rank s = under (suc (rank s)) s (omega arith)

still : {U : ℕ → ℕ → Type 0} {n t : ℕ} → Normal U n → Star U n t → n ≡ t
still h stay = refl
still h (go {m = m} u p) = absurd (h m u)

-- T1. The walk from s by the hops that `next` finds, at most k of them.
module _ (U : ℕ → ℕ → Type 0) where
  unfoldable pub step_or_stop : (ℕ → ℕ) → (s : ℕ) → StepOrNormal U s → ℕ
  step_or_stop on s (inl (t, _)) = on t
  step_or_stop on s (inr _) = s

module _ {U : ℕ → ℕ → Type 0} (next : (s : ℕ) → StepOrNormal U s) where
  unfoldable pub walk : ℕ → ℕ → ℕ
  walk zero s = s
  walk (suc k) s = step_or_stop U (walk k) s (next s)

  walk_down : (k s : ℕ) → Star U s (walk k s)
  unfolding walk step_or_stop
  walk_down zero s = stay
  walk_down (suc k) s = on (walk_down k) (next s)
    where
      on : ((t : ℕ) → Star U t (walk k t)) → (x : StepOrNormal U s) → Star U s (step_or_stop U (walk k) s x)
      on ih (inl (t, u)) = go u (ih t)
      on ih (inr _) = stay

module _ {Hop : ℕ → ℕ → ℕ → Type 0} {U : ℕ → ℕ → Type 0} (conf : Confluent Hop U) where
  open conf use {silent, weak, rank, falls}

  u_falls : {s t : ℕ} → U s t → rank t < rank s
  u_falls {s} {t} u = falls s t (silent s t u)

  sinks : {s t : ℕ} → Star U s t → rank t ≤ rank s
  sinks stay = omega arith
  sinks (go u p) = omega (arith, sinks p, u_falls u)

  module _ (next : (s : ℕ) → StepOrNormal U s) where
    walk_rest : (k s : ℕ) → rank s ≤ k → Normal U (walk next k s)
    unfolding walk step_or_stop
    walk_rest zero s l = λ t u. absurd (omega (arith, u_falls u))
    walk_rest (suc k) s l = on (walk_rest k) (next s)
      where
        on : ((t : ℕ) → rank t ≤ k → Normal U (walk next k t)) → (x : StepOrNormal U s) → Normal U (step_or_stop U (walk next k) s x)
        on ih (inl (t, u)) = ih t (omega (arith, u_falls u))
        on ih (inr h) = h

    unfoldable pub rep : ℕ → ℕ
    rep s = walk next (rank s) s

    pub rep_rests : NormalForms U rep
    unfolding rep
    rep_rests = record { down = λ s. walk_down next (rank s) s; rest = λ s. walk_rest (rank s) s (omega arith) }

  module _ {rep : ℕ → ℕ} (rests : NormalForms U rep) where
    open rests use {down, rest}

    pub rep_normal : {n : ℕ} → Normal U n → rep n ≡ n
    rep_normal {n} h = sym (still h (down n))

    -- the hops of U that leave s keep its `rep`
    abbrev Flat : ℕ → Type 0
    Flat s = (t : ℕ) → U s t → rep t ≡ rep s

    Meets·move : {p q s t a : ℕ} → rep p ≡ rep s → rep q ≡ rep t → Meets Hop rep p a q → Meets Hop rep s a t
    Meets·move e f (inl (z, g)) = inl (z, sym e ∙ g ∙ f)
    Meets·move {a = a} e f (inr (x, h, g)) = inr (x, subst (λ r. Hop r a x) e h, g ∙ f)

    -- Simulation, inside a set In of states that are flat, which no hop of U and none labelled a
    -- leaves.
    module _
        (In : ℕ → Type 0)
        (flat : (s : ℕ) → In s → Flat s)
        (U-in : (s t : ℕ) → In s → U s t → In t)
        (a : ℕ)
        (a_in : (s t : ℕ) → In s → Hop s a t → In t)
      where
        along : {s t : ℕ} → In s → Star U s t → In t × (rep t ≡ rep s)
        along i stay = (i, refl)
        along {s} i (go {m = m} u p) = let (j, e) = along (U-in s m i u) p in (j, e ∙ flat s i m u)

        abbrev Sim : ℕ → Type 0
        Sim s = In s → (t : ℕ) → Hop s a t → Meets Hop rep s a t

        sim_step : (s : ℕ) → ((d : ℕ) → rank d < rank s → Sim d) → Sim s
        sim_step s ih i t h = start (first (down s))
          where
            answer : (m : ℕ) → U s m → (e : ℕ) → Star U t e →
                ((a ≡ 0) × Star U m e) ⊎ ((p : ℕ) × (q : ℕ) × Star U m p × Hop p a q × Star U q e) → Meets Hop rep s a t
            answer m u e te (inl (z, me)) =
                let (_, x) = along (a_in s t i h) te in
                let (_, y) = along (U-in s m i u) me in
                let f = flat s i m u in
                inl (z, cc)
            answer m u e te (inr (p, q, mp, k, qe)) =
                let (_, x) = along (a_in s t i h) te in
                let (j, y) = along (U-in s m i u) mp in
                let (_, w) = along (a_in p q j k) qe in
                Meets·move (y ∙ flat s i m u) (sym w ∙ x) (ih p (omega (arith, sinks mp, u_falls u)) j q k)

            start : (s ≡ rep s) ⊎ ((m : ℕ) × U s m × Star U m (rep s)) → Meets Hop rep s a t
            start (inl e) = inr (t, subst (λ x. Hop x a t) e h, refl)
            start (inr (m, u, _)) = let (e, te, x) = weak s m u a t h in answer m u e te x

        sim : (s : ℕ) → Sim s
        sim = by_rank rank Sim sim_step

    -- Uniqueness: s is flat if each state of a lower rank is.
    module _ (s : ℕ) (ih : (d : ℕ) → rank d < rank s → Flat d) where
      abbrev Low : ℕ → Type 0
      Low d = rank d < rank s

      low_hop : (d t : ℕ) → Low d → Hop d 0 t → Low t
      low_hop d t l h = let k = falls d t h in omega arith

      low_u : (d t : ℕ) → Low d → U d t → Low t
      low_u d t l u = low_hop d t l (silent d t u)

      low_along : {d t : ℕ} → Low d → Star U d t → Low t × (rep t ≡ rep d)
      low_along = along Low ih low_u 0 low_hop

      -- of two hops of U from s, the ends have the same `rep`, or the second's has the lower rank
      half : (b c : ℕ) → U s b → U s c → (rep b ≡ rep c) ⊎ (rank (rep c) < rank (rep b))
      half b c u v = let (e, ce, x) = weak s b u 0 c (silent s c v) in answer e ce x
        where
          answer : (e : ℕ) → Star U c e →
              ((◌≡◌ {A = ℕ} 0 0) × Star U b e) ⊎ ((p : ℕ) × (q : ℕ) × Star U b p × Hop p 0 q × Star U q e) →
              (rep b ≡ rep c) ⊎ (rank (rep c) < rank (rep b))
          answer e ce (inl (_, be)) =
              let (_, x) = low_along (u_falls u) be in
              let (_, y) = low_along (u_falls v) ce in
              inl (sym x ∙ y)
          answer e ce (inr (p, q, bp, k, qe)) =
              let (_, x) = low_along (u_falls v) ce in
              let (j, y) = low_along (u_falls u) bp in
              let (_, w) = low_along (low_hop p q j k) qe in
              settle (Meets·move y (sym w ∙ x) (sim Low ih low_u 0 low_hop p j q k))
            where
              settle : Meets Hop rep b 0 c → (rep b ≡ rep c) ⊎ (rank (rep c) < rank (rep b))
              settle (inl (_, e)) = inl e
              settle (inr (x, h, e)) = inr (rw (← e) (omega (arith, sinks (down x), falls (rep b) x h)))

      meet : (b c : ℕ) → U s b → U s c → rep b ≡ rep c
      meet b c u v = both (half b c u v) (half c b v u)
        where
          both : (rep b ≡ rep c) ⊎ (rank (rep c) < rank (rep b)) → (rep c ≡ rep b) ⊎ (rank (rep b) < rank (rep c)) → rep b ≡ rep c
          both (inl e) _ = e
          both (inr l) (inl e) = sym e
          both (inr l) (inr k) = absurd (omega arith)

      flat_step : Flat s
      flat_step t u = start (first (down s))
        where
          start : (s ≡ rep s) ⊎ ((m : ℕ) × U s m × Star U m (rep s)) → rep t ≡ rep s
          start (inl e) = absurd (rest s t (subst (λ x. U x t) e u))
          start (inr (m, v, p)) = meet t m u v ∙ sym (low_along (u_falls v) p).1 ∙ rep_normal (rest s)

    flat : (s : ℕ) → Flat s
    flat = by_rank rank Flat flat_step

    -- T2. A state has one normal form.
    pub hop_same : {s t : ℕ} → U s t → rep s ≡ rep t
    hop_same {s} {t} u = sym (flat s t u)

    pub same_rep : {s t : ℕ} → Star U s t → rep t ≡ rep s
    same_rep stay = refl
    same_rep {s} (go {m = m} u p) = same_rep p ∙ flat s m u

    pub rep_only : {s n : ℕ} → Star U s n → Normal U n → n ≡ rep s
    rep_only p h = sym (rep_normal h) ∙ same_rep p

    pub unique : {s n m : ℕ} → Star U s n → Normal U n → Star U s m → Normal U m → n ≡ m
    unique p h q k = rep_only p h ∙ sym (rep_only q k)

    pub joined→rep : {s t : ℕ} → Joined U s t → rep s ≡ rep t
    joined→rep same = refl
    joined→rep {s} (fore {m = m} u j) = sym (flat s m u) ∙ joined→rep j
    joined→rep {s} (back {m = m} u j) = flat m s u ∙ joined→rep j

    pub rep→joined : (s t : ℕ) → rep s ≡ rep t → Joined U s t
    rep→joined s t e = Joined·join (star→joined (subst (Star U s) e (down s))) (Joined·sym (star→joined (down t)))

    pub joined_iff : {s t : ℕ} → Joined U s t ↔ (rep s ≡ rep t)
    joined_iff {s} {t} = (joined→rep, rep→joined s t)

    pub class : (s : ℕ) → (n : ℕ) × Normal U n × Joined U s n × ((m : ℕ) → Normal U m → Joined U s m → m ≡ n)
    class s = (rep s, rest s, star→joined (down s), λ m h j. sym (rep_normal h) ∙ sym (joined→rep j))

    -- T3. A state and its `rep` are branching bisimilar.
    pub forward : (s a t : ℕ) → Hop s a t → Meets Hop rep s a t
    forward s a t h = sim (λ _. Unit {0}) (λ s _. flat s) (λ _ _ _ _. tt) a (λ _ _ _ _. tt) s tt t h

    -- what is left has no silent ring either, by the same rank: it can be reduced again
    pub quotient_rank_falls : (n m : ℕ) → QuotientHop Hop rep n 0 m → rank m < rank n
    quotient_rank_falls n m (t, h, e) = rw (← e) (omega (arith, sinks (down t), falls n t h))

    pub backward : (s a t : ℕ) → Hop (rep s) a t → (u : ℕ) × Star (Silent Hop) s u × (rep u ≡ rep s) × Hop u a t
    backward s a t h = (rep s, star_mono silent (down s), rep_normal (rest s), h)
