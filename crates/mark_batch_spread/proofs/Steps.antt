-- One step more, which adds the bits of its source g to its target t. If a table is what the steps
-- D bring, afterwards it is what D and this step bring: for walks if t is the source of no step so
-- far nor of this one, for single hops if g is the target of none so far. `SpreadBack` is
-- `SpreadForth` along the reversed hops, so this is proved once. Assumes nothing.
use Prim.Native.Nat.{ℕ}
use mathlib.Core.Path.{◌≡◌, refl, sym, ◌∙◌}
use mathlib.Core.Bool.{true, ◌&&◌, ◌||◌}
use mathlib.Core.List.{List}
use mathlib.Core.Logic.{◌⊎◌, inl, inr, ⊎_elim}
use lib.Dec.{eqb}
use borrow.Author.Tests.{eqb-true, eq-eqb}
use Rattle.base_bounded.proofs.Bools.{and_yes, and_left, and_right, or_left, or_right, or_yes}
use Rattle.lts.specs.Star.{Star, stay, go}
use Rattle.lts.specs.Closes.{Reach, single, walks, Via, here, hop, walk}
use Rattle.lts.proofs.Star.{one, join, star_mono}
use Rattle.lts.proofs.Closes.{via_mono, via_walk}
use Rattle.base_bitset.specs.Internal.Bits.{bit_in}
use Rattle.mark_batch_spread.specs.Internal.Spread.{SpreadBack, SpreadForth}

-- the steps E are D and one more, from g to t
pub record More (D E : ℕ → ℕ → Type 0) (g t : ℕ) : Type 0 where
  pub kept : (x y : ℕ) → D x y → E x y
  pub new : E g t
  pub only : (x y : ℕ) → E x y → D x y ⊎ ((x ≡ g) × (y ≡ t))

-- what E brings is what D brings, and to t what D brings to g
pub record Further (D E : ℕ → ℕ → Type 0) (r : Reach) (g t : ℕ) : Type 0 where
  pub kept : {s z : ℕ} → Via D r s z → Via E r s z
  pub new : {s : ℕ} → Via D r s g → Via E r s t
  pub only : {s z : ℕ} → Via E r s z → Via D r s z ⊎ (Via D r s g × (z ≡ t))

-- the table `next` is `now` with the bits of g added to t
abbrev pub SpreadStep : ℕ → ℕ → List ℕ → List ℕ → Type 0
SpreadStep g t now next = (z b : ℕ) → bit_in next z b ≡ (bit_in now z b || (eqb z t && bit_in now g b))

-- along the reversed hops
module _ {D E : ℕ → ℕ → Type 0} (f : (x y : ℕ) → D x y → E y x) where
  star_reversed : {s t : ℕ} → Star D s t → Star E t s
  star_reversed stay = stay
  star_reversed (go {s} {m} d p) = join (star_reversed p) (one (f s m d))

  via_reversed : {r : Reach} {s t : ℕ} → Via D r s t → Via E r t s
  via_reversed here = here
  via_reversed (hop {s} {t} d) = hop (f s t d)
  via_reversed (walk p) = walk (star_reversed p)

-- the same hops bring the same
module _ {D E : ℕ → ℕ → Type 0} {r : Reach} (old new : List ℕ) where
  pub forth_same : ((x y : ℕ) → D x y → E x y) → ((x y : ℕ) → E x y → D x y) → SpreadForth D r old new → SpreadForth E r old new
  forth_same into back h t b = (
    λ e. let (s, v, o) = (h t b).0 e in (s, via_mono into v, o),
    λ (s, v, o). (h t b).1 (s, via_mono back v, o),
  )

  pub forth_back : ((x y : ℕ) → D x y → E y x) → ((x y : ℕ) → E x y → D y x) → SpreadForth D r old new → SpreadBack E r old new
  forth_back into back h s b = (
    λ e. let (t, v, o) = (h s b).0 e in (t, via_reversed into v, o),
    λ (t, v, o). (h s b).1 (t, via_reversed back v, o),
  )

-- along no hop each state has what it had
module _ {D : ℕ → ℕ → Type 0} (none : (x y : ℕ) → D x y → ⊥) where
  via_stays : {r : Reach} {s t : ℕ} → Via D r s t → s ≡ t
  via_stays here = refl
  via_stays (hop {s} {t} d) = absurd (none s t d)
  via_stays (walk stay) = refl
  via_stays (walk (go {s} {m} d p)) = absurd (none s m d)

  pub forth_none : {r : Reach} (ws : List ℕ) → SpreadForth D r ws ws
  forth_none ws t b = (λ e. (t, here, e), λ (s, v, o). rw (← via_stays v) o)

module _ {D E : ℕ → ℕ → Type 0} {g t : ℕ} (m : More D E g t) where
  -- walks: none goes on from t
  module _ (ends : (y : ℕ) → E t y → ⊥) where
    split : {s z : ℕ} → Star E s z → Star D s z ⊎ (Star D s g × (z ≡ t))
    split stay = inl stay
    split (go {s} {m = x} e p) =
        ⊎_elim (λ d. ⊎_elim (λ q. inl (go d q)) (λ (q, w). inr (go d q, w)) (split p)) (λ (a, w). last a w p) (m.only s x e) where
          last : {s x z : ℕ} → s ≡ g → x ≡ t → Star E x z → Star D s z ⊎ (Star D s g × (z ≡ t))
          last a w stay = inr (rw a stay, w)
          last a w (go {m = y} e p) = absurd (ends y (rw w at e))

    pub walks_further : Further D E walks g t
    walks_further = record {
      kept = via_mono m.kept;
      new = λ v. walk (join (star_mono m.kept (via_walk v)) (one m.new));
      only = λ v. ⊎_elim (λ q. inl (walk q)) (λ (q, w). inr (walk q, w)) (split (via_walk v));
    }

  -- one hop: none leads to g
  module _ (begins : (x : ℕ) → D x g → ⊥) where
    new_hop : {s : ℕ} → Via D single s g → Via E single s t
    new_hop here = hop m.new
    new_hop (hop {s} d) = absurd (begins s d)

    only_hop : {s z : ℕ} → Via E single s z → Via D single s z ⊎ (Via D single s g × (z ≡ t))
    only_hop here = inl here
    only_hop (hop {s} {t = z} e) = ⊎_elim (λ d. inl (hop d)) (λ (a, w). inr (rw a here, w)) (m.only s z e)

    pub single_further : Further D E single g t
    single_further = record { kept = via_mono m.kept; new = new_hop; only = only_hop }

module _ {D E : ℕ → ℕ → Type 0} {r : Reach} {g t : ℕ} (f : Further D E r g t) (old now next : List ℕ) (gave : SpreadStep g t now next) where
  pub forth_more : SpreadForth D r old now → SpreadForth E r old next
  forth_more h z b = (into, back) where
    into : bit_in next z b ≡ true → (s : ℕ) × Via E r s z × (bit_in old s b ≡ true)
    into e =
        ⊎_elim (λ w. let (s, v, o) = (h z b).0 w in (s, f.kept v, o))
        (λ w. taken (eqb-true z t (and_left (eqb z t) (bit_in now g b) w)) (and_right (eqb z t) (bit_in now g b) w))
        (or_yes (bit_in now z b) (eqb z t && bit_in now g b) (sym (gave z b) ∙ e)) where
          taken : z ≡ t → bit_in now g b ≡ true → (s : ℕ) × Via E r s z × (bit_in old s b ≡ true)
          taken q e = let (s, v, o) = (h g b).0 e in (s, rw q (f.new v), o)

    back : (s : ℕ) × Via E r s z × (bit_in old s b ≡ true) → bit_in next z b ≡ true
    back (s, v, o) =
        gave z b ∙
        ⊎_elim (λ w. or_left (eqb z t && bit_in now g b) ((h z b).1 (s, w, o)))
        (λ (w, e). or_right (bit_in now z b) (and_yes (eq-eqb z t e) ((h g b).1 (s, w, o)))) (f.only v)
