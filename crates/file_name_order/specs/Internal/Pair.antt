-- What only private functions and proofs cite beside `Pair`. Assumes nothing: these are
-- definitions.
use Rattle.std.specs.Prelude.{ℕ, ◌+◌, ◌*◌, ◌<◌, ◌≤◌, ◌≡◌, true, List, length, get_or}
use Rattle.file_numbers.specs.Numbers.{number_at}
use Rattle.std.specs.declared.cmp.Ordering.{Ordering}
use Rattle.std.specs.declared.cmp.Ordering.TheVariants.{Less, Equal, Greater}
use Rattle.file_name_order.specs.Pair.{same_name}

-- the name with its length byte at p lies in the block
abbrev pub Lies : List ℕ → ℕ → Type 0
Lies ns p = p + 1 + get_or ns p 0 ≤ length ns

-- the first i bytes from p on, the length byte of a name among them, are those from q on
abbrev pub Agree : List ℕ → ℕ → ℕ → ℕ → Type 0
Agree ns p q i = (j : ℕ) → j < i → get_or ns (p + j) 0 ≡ get_or ns (q + j) 0

-- four bytes as one number
abbrev pub four_at : List ℕ → ℕ → ℕ
four_at ns p = number_at ns p + 65536 * number_at ns (p + 2)

-- the name at p is before the one at q: the first byte that differs is less. The length byte is the
-- first of all, so a shorter name is before a longer one.
pub record NameBefore (ns : List ℕ) (p q : ℕ) : Type 0 where
  pub first : ℕ
  pub inside : first ≤ get_or ns p 0
  pub agree : Agree ns p q first
  pub less : get_or ns (p + first) 0 < get_or ns (q + first) 0

-- what a comparison of the names at p and q says
abbrev pub Compared : List ℕ → ℕ → ℕ → Ordering → Type 0
Compared ns p q Less = NameBefore ns p q
Compared ns p q Equal = same_name ns p q ≡ true
Compared ns p q Greater = NameBefore ns q p
