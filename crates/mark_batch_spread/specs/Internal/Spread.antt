-- Propagation of bitsets: which bits the states of a table of words get from one another along a
-- set U of hops. Assumes nothing: these are definitions.
use Rattle.std.specs.Prelude.{ℕ, ◌≡◌, true, List, ◌↔◌}
use Rattle.lts.specs.Closes.{Reach, Via}
use Rattle.base_bitset.specs.Internal.Bits.{bit_in}

-- a state has afterwards the bits that those which it leads to had before
abbrev pub SpreadBack : (ℕ → ℕ → Type 0) → Reach → List ℕ → List ℕ → Type 0
SpreadBack U r old new = (s b : ℕ) → (bit_in new s b ≡ true) ↔ ((t : ℕ) × Via U r s t × (bit_in old t b ≡ true))

-- a state has afterwards the bits that those which lead to it had before
abbrev pub SpreadForth : (ℕ → ℕ → Type 0) → Reach → List ℕ → List ℕ → Type 0
SpreadForth U r old new = (t b : ℕ) → (bit_in new t b ≡ true) ↔ ((s : ℕ) × Via U r s t × (bit_in old s b ≡ true))
