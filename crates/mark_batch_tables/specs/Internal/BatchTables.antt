-- A batch of hops tried together, as bitsets: bit b of a word stands for the hop at place base + b,
-- for b below m. Assumes nothing: these are definitions.
use Rattle.std.specs.Prelude.{ℕ, ◌+◌, ◌≡◌, true, ◌&&◌, List, ◌⊎◌, ◌↔◌, eqb, ltb}
use Rattle.walk_silent.specs.Silent.{HopOf}
use Rattle.base_bitset.specs.Internal.Bits.{bit_in}

-- the table has bit b where the key of the hop at place base + b says, and nowhere else
abbrev pub KeyTable : (ℕ → ℕ) → ℕ → ℕ → List ℕ → Type 0
KeyTable key base m table = (s b : ℕ) → bit_in table s b ≡ (ltb b m && eqb (key (base + b)) s)

-- who answers by staying: p has bit b exactly when the silent label and p itself have it
abbrev pub StayTable : List ℕ → List ℕ → List ℕ → Type 0
StayTable labels ends out = (p b : ℕ) → bit_in out p b ≡ (bit_in ends p b && bit_in labels 0 b)

-- p has bit b exactly when it has a hop, labelled by a label with bit b, to a state with bit b, or
-- when the silent label and p itself have it
abbrev pub AnswerTable : List ℕ → List ℕ → List ℕ → List ℕ → Type 0
AnswerTable hs labels ends out =
    (p b : ℕ) → (bit_in out p b ≡ true) ↔
    ((a : ℕ) × (q : ℕ) × (HopOf hs p a q ⊎ ((a ≡ 0) × (q ≡ p))) × (bit_in labels a b ≡ true) × (bit_in ends q b ≡ true))
