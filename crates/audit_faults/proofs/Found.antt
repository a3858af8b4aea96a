-- A search over places finds the first place that passes. Assumes nothing.
use Rattle.std.proofs.Common.{◌≡◌, refl, ℕ, zero, suc, ◌+◌, ◌<◌, Bool, true, false, cond, Some, arith, add-zero}
use borrow.Author.Tests.{lt-ltb, le-ltb}
use Rattle.std.specs.List.{range_with_len, find}
use Rattle.base_bounded.specs.Quantifiers.{least}
use Rattle.base_bounded.proofs.Quantifiers.{least_more, least_found}
use Rattle.graph_check.specs.Internal.Places.{place_below}

-- the search from lo on, where no place before lo passes
pub find_least : (p : ℕ → Bool) (lo n : ℕ) → least lo p ≡ lo → find p (range_with_len lo n) ≡ place_below (lo + n) (least (lo + n) p)
find_least p lo zero e = rw (add-zero lo, e, le-ltb lo lo (omega arith))
find_least p lo (suc n) e = go (p lo) refl (λ f. find_least p (lo + 1) n f) where
  go : (b : Bool) → p lo ≡ b → (least (lo + 1) p ≡ lo + 1 → find p (range_with_len (lo + 1) n) ≡ place_below (lo + 1 + n) (least (lo + 1 + n) p)) →
      cond b (Some lo) (find p (range_with_len (lo + 1) n)) ≡ place_below (lo + suc n) (least (lo + suc n) p)
  go true d ih = let l : lo < lo + suc n = omega arith in rw (least_found p (lo + suc n) l e d, lt-ltb lo (lo + suc n) l)
  go false d ih = let q : lo + suc n ≡ lo + 1 + n = omega arith in rw q (ih (least_more p lo e d))
