-- Two names among the bytes of a name block (label table), each with its length byte in front: when
-- they are the same, and the order by which the binary search goes. Assumes nothing: these are
-- definitions.
use Rattle.std.specs.Prelude.{ℕ, ◌+◌, Bool, ◌&&◌, List, get_or, eqb}
use Rattle.base_bounded.specs.Quantifiers.{all}

-- "Two names are the same when their bytes are": the names with their length bytes at p and q
unfoldable pub same_byte : List ℕ → ℕ → ℕ → ℕ → Bool
same_byte ns p q i = eqb (get_or ns (p + 1 + i) 0) (get_or ns (q + 1 + i) 0)

unfoldable pub same_name : List ℕ → ℕ → ℕ → Bool
same_name ns p q = eqb (get_or ns p 0) (get_or ns q 0) && all (get_or ns p 0) (same_byte ns p q)
