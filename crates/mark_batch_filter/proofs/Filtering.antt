-- The filter, hop by hop: what holds after the first i hops, and that one hop more keeps it.
-- Assumes nothing.
use Prim.Native.Nat.{ℕ, ◌+◌, ◌<◌, ◌≤◌}
use mathlib.Core.Path.{◌≡◌, sym, ap, ◌∙◌}
use mathlib.Core.Bool.{true, false, cond, not, ◌&&◌}
use mathlib.Core.List.{List}
use mathlib.Core.Logic.{◌⊎◌, inl, inr}
use native.Mathlib.Omega.{arith}
use lib.ListN.{length, get_or, set, drop, length-set}
use lib.Dec.{eqb}
use lib.Seq.{get_or-set_same, get_or-set_other, drop-set-lt}
use Rattle.base_bounded.specs.Quantifiers.{tally}
use Rattle.base_bounded.proofs.Bools.{eq_or_not, and_left}
use Rattle.base_bounded.proofs.Quantifiers.{tally_less, tally_within}
use Rattle.graph.specs.Hops.{count}
use Rattle.mark_confluence.specs.Internal.MarkSet.{is_marked}
use Rattle.mark_confluence.proofs.MarkSet.{taken_here, taken_only}
use Rattle.mark_batch_filter.specs.Internal.Filtered.{fits, fails}

module _ (hs ms froms answers : List ℕ) where
  -- the first i hops are filtered
  pub record FilteredTo (i : ℕ) (new : List ℕ) (r : ℕ) : Type 0 where
    pub long : length new ≡ length ms
    pub beyond : drop (count hs) new ≡ drop (count hs) ms
    pub done : (j : ℕ) → j < i → get_or new j 0 ≡ cond (fails hs ms froms answers j) 0 (get_or ms j 0)
    pub rest : (j : ℕ) → i ≤ j → get_or new j 0 ≡ get_or ms j 0
    pub fewer : tally (count hs) (is_marked new) + r ≤ tally (count hs) (is_marked ms)
    pub same : r ≡ 0 → new ≡ ms

  module _ {i : ℕ} {new : List ℕ} {r : ℕ} (v : FilteredTo i new r) (l : i < count hs) (capacity : count hs ≤ length ms) where
    -- the mark at i is still the one that it was
    still : fails hs new froms answers i ≡ fails hs ms froms answers i
    unfolding is_marked
    still = ap (λ (x : ℕ). eqb x 1 && not (fits hs froms answers i)) (v.rest i (omega arith))

    long : i < length new
    long = omega (arith, v.long)

    pub filtered_fails : fails hs new froms answers i ≡ true → FilteredTo (i + 1) (set new i 0) (r + 1)
    filtered_fails e =
        record {
          long = length-set new i 0 ∙ v.long;
          beyond = drop-set-lt (count hs) new i 0 l ∙ v.beyond;
          done = λ j k. done j k (eq_or_not j i);
          rest = λ j k. get_or-set_other new i j 0 0 (λ q. omega arith) ∙ v.rest j (omega arith);
          fewer = omega (arith, v.fewer, tally_less (is_marked (set new i 0)) (is_marked new) (count hs) (λ j k o. taken_only new long j o) l (taken_here new long) (and_left _ _ e));
          same = λ q. absurd (omega arith);
        } where
          done : (j : ℕ) → j < i + 1 → (j ≡ i) ⊎ (j ≡ i → ⊥) → get_or (set new i 0) j 0 ≡ cond (fails hs ms froms answers j) 0 (get_or ms j 0)
          done j k (inl q) = rw (q, sym still ∙ e) (get_or-set_same new i 0 0 (omega (arith, v.long)))
          done j k (inr n) = get_or-set_other new i j 0 0 n ∙ v.done j (omega arith)

    pub filtered_stays : fails hs new froms answers i ≡ false → FilteredTo (i + 1) new r
    filtered_stays e =
        record {
          long = v.long;
          beyond = v.beyond;
          done = λ j k. done j k (eq_or_not j i);
          rest = λ j k. v.rest j (omega arith);
          fewer = v.fewer;
          same = v.same;
        } where
          done : (j : ℕ) → j < i + 1 → (j ≡ i) ⊎ (j ≡ i → ⊥) → get_or new j 0 ≡ cond (fails hs ms froms answers j) 0 (get_or ms j 0)
          done j k (inl q) = rw (q, sym still ∙ e) (v.rest i (omega arith))
          done j k (inr n) = v.done j (omega arith)

  pub filtered_most : {i : ℕ} {new : List ℕ} {r : ℕ} → FilteredTo i new r → r ≤ count hs
  filtered_most v = omega (arith, v.fewer, tally_within (is_marked ms) (count hs))
