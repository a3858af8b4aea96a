-- Reachability along a chosen set of hops: a set of hops is a test of their places, and a state
-- leads to another by zero or more hops of the set. The silent (tau) hops are one such set. Assumes
-- nothing: these are definitions.
use Rattle.std.specs.Prelude.{ℕ, zero, suc, Bool, ◌&&◌, ◌||◌, List, eqb}
use Rattle.base_bounded.specs.Quantifiers.{any}
use Rattle.graph.specs.Hops.{count, from, to}

-- s leads to t by at most k hops of the set c
unfoldable pub leads_by : List ℕ → (ℕ → Bool) → ℕ → ℕ → ℕ → Bool
leads_by hs c zero s t = eqb s t
leads_by hs c (suc k) s t = eqb s t || any (count hs) (λ (i : ℕ). (eqb (from hs i) s && c i) && leads_by hs c k (to hs i) t)
