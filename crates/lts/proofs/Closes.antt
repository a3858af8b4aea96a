-- The condition of a sense is monotone in the set and in the sense: the union of sets of a sense is
-- one, a set of R1 is one of R2 and of R3, and a set of either is one of R8. Assumes nothing.
use Prim.Native.Nat.{ℕ}
use Rattle.lts.specs.Star.{Star, stay}
use Rattle.lts.specs.Closes.{Reach, Via, here, hop, walk, Sense, r1, r2, r3, r8, Closes, ConfluentIn, ReachLe, same, more, most, Implies}
use Rattle.lts.specs.Internal.Closes.{Greatest}
use Rattle.lts.proofs.Star.{one, star_mono}

module _ {U W : ℕ → ℕ → Type 0} (f : (s t : ℕ) → U s t → W s t) where
  pub via_mono : {r : Reach} {s t : ℕ} → Via U r s t → Via W r s t
  via_mono here = here
  via_mono (hop {s} {t} u) = hop (f s t u)
  via_mono (walk p) = walk (star_mono f p)

  pub closes_in_mono : {sense : Sense} {Hop : ℕ → ℕ → ℕ → Type 0} {s1 s2 : ℕ} → Closes sense Hop U s1 s2 → Closes sense Hop W s1 s2
  closes_in_mono c a s3 h = let (p, q, s4, x, y, z, w) = c a s3 h in (p, q, s4, via_mono x, y, via_mono z, via_mono w)

module _ {U : ℕ → ℕ → Type 0} where
  pub via_walk : {r : Reach} {s t : ℕ} → Via U r s t → Star U s t
  via_walk here = stay
  via_walk (hop u) = one u
  via_walk (walk p) = p

  via_farther : {r q : Reach} {s t : ℕ} → ReachLe r q → Via U r s t → Via U q s t
  via_farther same v = v
  via_farther more here = here
  via_farther most v = walk (via_walk v)

  module _ {Hop : ℕ → ℕ → ℕ → Type 0} {sense weaker : Sense} (k : Implies sense weaker) where
    pub closes_weaker : {s1 s2 : ℕ} → Closes sense Hop U s1 s2 → Closes weaker Hop U s1 s2
    closes_weaker c a s3 h =
        let (p, q, s4, x, y, z, v) = c a s3 h in
        (p, q, s4, via_farther k.before x, y, via_farther k.after z, via_farther k.closing v)

    pub confluent_weaker : ConfluentIn sense Hop U → ConfluentIn weaker Hop U
    confluent_weaker c = record { silent = c.silent; closed = λ s t u. closes_weaker (c.closed s t u) }

    -- what is marked in a sense is marked in a weaker one
    pub confluent_within_greatest : {W : ℕ → ℕ → Type 0} → ConfluentIn sense Hop U → Greatest weaker Hop W → (s t : ℕ) → U s t → W s t
    confluent_within_greatest c greatest = greatest U (confluent_weaker c)

pub union_confluent_in : {sense : Sense} {Hop : ℕ → ℕ → ℕ → Type 0} {I : Type 0} {U : I → ℕ → ℕ → Type 0} →
    ((i : I) → ConfluentIn sense Hop (U i)) → ConfluentIn sense Hop (λ s t. (i : I) × U i s t)
union_confluent_in c = record {
  silent = λ s t (i, u). (c i).silent s t u;
  closed = λ s t (i, u). closes_in_mono (λ s t v. (i, v)) ((c i).closed s t u);
}

pub r1→r2 : Implies r1 r2
r1→r2 = record { before = same; after = most; closing = same }

pub r1→r3 : Implies r1 r3
r1→r3 = record { before = most; after = same; closing = same }

-- R2 and R3 imply R8, and so does every sense
pub implies_r8 : (sense : Sense) → Implies sense r8
implies_r8 sense = record { before = most; after = most; closing = most }
