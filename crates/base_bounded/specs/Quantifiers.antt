-- Bounded quantifiers, by which everything over a hop list is said: all the numbers below a bound
-- pass a test, any passes, the least that passes, how many pass; and the list and the sum of a
-- function's values below a bound. Assumes nothing: these are definitions.
use Rattle.std.specs.Prelude.{ℕ, zero, suc, ◌+◌, Bool, true, false, cond, ◌&&◌, ◌||◌, List, [], ◌∷◌, ◌++◌, ltb}

unfoldable pub all : ℕ → (ℕ → Bool) → Bool
all zero p = true
all (suc n) p = p n && all n p

unfoldable pub any : ℕ → (ℕ → Bool) → Bool
any zero p = false
any (suc n) p = p n || any n p

-- the least number below n that passes p, or n if none does
unfoldable pub least : ℕ → (ℕ → Bool) → ℕ
least zero p = zero
least (suc n) p = cond (ltb (least n p) n) (least n p) (cond (p n) n (suc n))

-- how many numbers below n pass p
unfoldable pub tally : ℕ → (ℕ → Bool) → ℕ
tally zero p = zero
tally (suc n) p = cond (p n) 1 0 + tally n p

-- f 0, f 1, .. up to f (n - 1)
unfoldable pub tabulate : ℕ → (ℕ → ℕ) → List ℕ
tabulate zero f = []
tabulate (suc n) f = tabulate n f ++ (f n ∷ [])

-- the sum of f 0, f 1, .. up to f (n - 1)
unfoldable pub total : ℕ → (ℕ → ℕ) → ℕ
total zero f = zero
total (suc n) f = f n + total n f
