-- Which source line is kept where several hops become one: "the smallest nonzero line among the
-- hops it comes from, else 0". Assumes nothing: these are definitions.
use Rattle.std.specs.Prelude.{ℕ, ◌<◌, ◌≤◌, ◌≡◌, Bool, true, cond, eqb, ltb}
use Rattle.graph.specs.Hops.{lined_hop}
use Rattle.graph.specs.declared.Hop.{Hop}

-- the smaller of two lines that is not 0, or 0
unfoldable pub lesser_line : ℕ → ℕ → ℕ
lesser_line a b = cond (eqb a 0) b (cond (eqb b 0) a (cond (ltb b a) b a))

-- what is kept of two hops that are alike: x, with the lesser of their lines
abbrev pub merged_hop : Hop → Hop → Hop
merged_hop x h = lined_hop x.from x.label x.to (lesser_line x.line h.line)

-- What that is to mean: l is one of their lines if it is not 0, and none of them that is not 0 is
-- smaller, nor is there one if l is 0
pub record Smallest (pass : ℕ → Bool) (line : ℕ → ℕ) (n l : ℕ) : Type 0 where
  pub one_of_theirs : 0 < l → (i : ℕ) × (i < n) × (pass i ≡ true) × (line i ≡ l)
  pub none_smaller : (i : ℕ) → i < n → pass i ≡ true → 0 < line i → (0 < l) × (l ≤ line i)
