-- The senses (notions) of tau-confluence of a set U of silent hops (RR-7000): R1, R2, R3, and the
-- weak one, R8, last: `Weak`. The silent label (tau) is 0. Assumes nothing: these are definitions.
use Rattle.std.specs.Prelude.{ℕ, ◌≡◌, ◌⊎◌}
use Rattle.lts.specs.Star.{Star}

-- no hop of U leaves n.
-- In the field: a normal form.
abbrev pub Normal : (ℕ → ℕ → Type 0) → ℕ → Type 0
Normal U n = (t : ℕ) → U n t → ⊥

module _ (Hop : ℕ → ℕ → ℕ → Type 0) (U : ℕ → ℕ → Type 0) where
  -- s answers a hop labelled a by one that leads to t, or, if a is silent, by none
  abbrev pub HopOrStay : ℕ → ℕ → ℕ → Type 0
  HopOrStay s a t = Hop s a t ⊎ ((a ≡ 0) × (t ≡ s))

  -- at most one hop of U
  abbrev pub Upto : ℕ → ℕ → Type 0
  Upto s t = (s ≡ t) ⊎ U s t

  -- strong confluence, the sense of document 01
  abbrev pub R1 : Type 0
  R1 = (s1 s2 : ℕ) → U s1 s2 → (a s3 : ℕ) → Hop s1 a s3 → (s4 : ℕ) × HopOrStay s2 a s4 × Upto s3 s4

  -- after the answering hop, zero or more hops of U
  abbrev pub R2 : Type 0
  R2 = (s1 s2 : ℕ) → U s1 s2 → (a s3 : ℕ) → Hop s1 a s3 → (s4 : ℕ) × (q : ℕ) × HopOrStay s2 a q × Star U q s4 × Upto s3 s4

  -- zero or more hops of U before the answering hop
  abbrev pub R3 : Type 0
  R3 = (s1 s2 : ℕ) → U s1 s2 → (a s3 : ℕ) → Hop s1 a s3 → (s4 : ℕ) × (p : ℕ) × Star U s2 p × HopOrStay p a s4 × Upto s3 s4

  -- both, and s3 comes to s4 by zero or more hops of U too: R8
  abbrev pub Weak : Type 0
  Weak =
      (s1 s2 : ℕ) → U s1 s2 → (a s3 : ℕ) → Hop s1 a s3 →
      (s4 : ℕ) × Star U s3 s4 ×
      (((a ≡ 0) × Star U s2 s4) ⊎ ((p : ℕ) × (q : ℕ) × Star U s2 p × Hop p a q × Star U q s4))
