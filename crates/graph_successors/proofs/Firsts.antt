-- First places in an ascending list: what stands before one, when a place is one, and what the
-- table says. Assumes nothing.
use Prim.Native.Nat.{ℕ, ◌+◌, ◌<◌, ◌≤◌}
use mathlib.Core.Path.{◌≡◌, sym, ◌∙◌}
use mathlib.Core.List.{List}
use mathlib.Core.Logic.{◌⊎◌, inl, inr}
use native.Mathlib.Omega.{arith}
use lib.ListN.{length, get_or, set}
use lib.Seq.{get_or-set_same, get_or-set_other}
use borrow.Author.Tests.{ltb-true, lt-ltb}
use Rattle.std.proofs.lemmas.Bool.{cases_lt}
use Rattle.graph.specs.Hops.{count, from}
use Rattle.graph.specs.Order.{Ascending}
use Rattle.graph.specs.Answers.{most_states}
use Rattle.graph_check.specs.Check.{Admitted}
use Rattle.graph.specs.Search.{first_of}
use Rattle.graph.specs.declared.Shape.{Shape}
use Rattle.graph.proofs.Lookup.{first_law, first_within}
use Rattle.graph_successors.specs.Internal.SuccessorIndex.{SuccessorIndex, Indexable}

-- an admitted graph has a table
pub admitted_indexable : {sh : Shape} {hs : List ℕ} → Admitted sh hs → Indexable hs
admitted_indexable a =
    record {
      ascending = a.ascending;
      hops_most = a.hops_most;
      from_in = λ i l. omega (arith, a.range.from_in i l, a.states_most);
      to_in = λ i l. omega (arith, a.range.to_in i l, a.states_most);
    }

module _ (hs : List ℕ) (up : Ascending hs) where
  pub first_below : (s : ℕ) {j : ℕ} → j < first_of hs s → from hs j < s
  first_below s {j} l =
      let w : j < count hs = omega (arith, first_within hs up s) in
      ltb-true (from hs j) s (sym (first_law hs up s w) ∙ lt-ltb j (first_of hs s) l)

  -- a place before which all hops are from states below s, and at which one is not, is the first of
  -- s
  pub first_is : (s : ℕ) {r : ℕ} → r ≤ count hs → ((j : ℕ) → j < r → from hs j < s) → (r < count hs → s ≤ from hs r) → r ≡ first_of hs s
  first_is s {r} w f g = go (cases_lt r (first_of hs s)) (cases_lt (first_of hs s) r) where
    go : (r < first_of hs s) ⊎ (first_of hs s ≤ r) → (first_of hs s < r) ⊎ (r ≤ first_of hs s) → r ≡ first_of hs s
    go (inl l) d = absurd (omega (arith, first_below s l, g (omega (arith, first_within hs up s))))
    go (inr m) (inl l) =
        let k : first_of hs s < count hs = omega arith in
        absurd (omega (arith, ltb-true (first_of hs s) (first_of hs s) (first_law hs up s k ∙ lt-ltb (from hs (first_of hs s)) s (f (first_of hs s) l))))
    go (inr m) (inr n) = omega arith

  pub first_next : (s : ℕ) → first_of hs s ≤ first_of hs (s + 1)
  first_next s = go (cases_lt (first_of hs (s + 1)) (first_of hs s)) where
    go : (first_of hs (s + 1) < first_of hs s) ⊎ (first_of hs s ≤ first_of hs (s + 1)) → first_of hs s ≤ first_of hs (s + 1)
    go (inl l) =
        let k : first_of hs (s + 1) < count hs = omega (arith, first_within hs up s) in
        absurd (omega (
          arith,
          ltb-true (first_of hs (s + 1)) (first_of hs (s + 1))
              (first_law hs up (s + 1) k ∙ lt-ltb (from hs (first_of hs (s + 1))) (s + 1) (omega (arith, first_below s l))),
        ))
    go (inr l) = l

-- what the table says of a state
pub start_is : (hs st : List ℕ) → SuccessorIndex hs st → (x : ℕ) {y r : ℕ} → x ≡ y → y ≤ most_states → r ≡ get_or st x 0 → r ≡ first_of hs y
unfolding SuccessorIndex
start_is hs st t x {y} q l e = e ∙ rw q (t y l)

-- one place more of a range
pub range_more : {P : ℕ → Type 0} {at k : ℕ} → ((j : ℕ) → at ≤ j → j < k → P j) → P k → (j : ℕ) → at ≤ j → j < k + 1 → P j
range_more {P} {at} {k} f h j l m = go (cases_lt j k) where
  go : (j < k) ⊎ (k ≤ j) → P j
  go (inl n) = f j l n
  go (inr n) = let q : j ≡ k = omega arith in rw q h

-- one element more of a table of f
pub filled_more : (f : ℕ → ℕ) (xs : List ℕ) {s v : ℕ} → s < length xs → v ≡ f s → ((t : ℕ) → t < s → get_or xs t 0 ≡ f t) →
    (t : ℕ) → t < s + 1 → get_or (set xs s v) t 0 ≡ f t
filled_more f xs {s} {v} l e g t m = go (cases_lt t s) where
  go : (t < s) ⊎ (s ≤ t) → get_or (set xs s v) t 0 ≡ f t
  go (inl n) = get_or-set_other xs s t v 0 (λ q. omega arith) ∙ g t n
  go (inr n) = let q : t ≡ s = omega arith in rw q (get_or-set_same xs s v 0 l ∙ e)
