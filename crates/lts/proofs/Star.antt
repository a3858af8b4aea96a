-- Laws of the closures of a relation. Assumes nothing.
use Prim.Native.Nat.{ℕ}
use mathlib.Core.Path.{◌≡◌, refl}
use mathlib.Core.Logic.{◌⊎◌, inl, inr}
use Rattle.lts.specs.Star.{Star, stay, go, Joined, same, fore, back}

module _ {R : ℕ → ℕ → Type 0} where
  pub one : {s t : ℕ} → R s t → Star R s t
  one r = go r stay

  pub join : {s m t : ℕ} → Star R s m → Star R m t → Star R s t
  join stay q = q
  join (go r p) q = go r (join p q)

  -- the first step, if there is one
  pub first : {s t : ℕ} → Star R s t → (s ≡ t) ⊎ ((m : ℕ) × R s m × Star R m t)
  first stay = inl refl
  first (go {m} r p) = inr (m, r, p)

  pub Joined·join : {s m t : ℕ} → Joined R s m → Joined R m t → Joined R s t
  Joined·join same q = q
  Joined·join (fore r p) q = fore r (Joined·join p q)
  Joined·join (back r p) q = back r (Joined·join p q)

  pub Joined·sym : {s t : ℕ} → Joined R s t → Joined R t s
  Joined·sym same = same
  Joined·sym (fore r p) = Joined·join (Joined·sym p) (back r same)
  Joined·sym (back r p) = Joined·join (Joined·sym p) (fore r same)

  pub star→joined : {s t : ℕ} → Star R s t → Joined R s t
  star→joined stay = same
  star→joined (go r p) = fore r (star→joined p)

-- a star of one relation is a star of any that contains it
pub star_mono : {R Q : ℕ → ℕ → Type 0} → ((s t : ℕ) → R s t → Q s t) → {s t : ℕ} → Star R s t → Star Q s t
star_mono f stay = stay
star_mono f (go {s} {m} r p) = go (f s m r) (star_mono f p)
