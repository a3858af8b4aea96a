-- The silent hops of a state (its row) appended to the order, hop by hop. Assumes nothing.
use Prim.Native.Nat.{ℕ, ◌+◌, ◌-◌, ◌<◌, ◌≤◌}
use mathlib.Core.Path.{◌≡◌, refl, ◌∙◌}
use mathlib.Core.Bool.{true}
use mathlib.Core.List.{List}
use mathlib.Core.Logic.{◌⊎◌, inl, inr}
use native.Mathlib.Omega.{arith}
use lib.ListN.{length, get_or, set, length-set}
use lib.Seq.{get_or-set_same, get_or-set_other}
use Rattle.base_bounded.specs.Quantifiers.{tally}
use Rattle.base_bounded.proofs.Bools.{lt_or_le}
use Rattle.base_bounded.proofs.Quantifiers.{tally_more}
use Rattle.base_bounded.proofs.Tallies.{tally_past}
use Rattle.graph.specs.Hops.{count, label, labelled}
use Rattle.graph.specs.Order.{Ascending}
use Rattle.graph.specs.Search.{first_of, past_of}
use Rattle.graph.specs.Internal.Search.{labelled_past}
use Rattle.graph.proofs.Lookup.{first_within, range_only}
use Rattle.graph.proofs.Places.{labelled_yes, labelled_parts}
use Rattle.graph_successors.proofs.Firsts.{range_more}
use Rattle.graph_successors.proofs.Rows.{labelled_holds, labelled_only, labelled_past_lem, silent_first}
use Rattle.walk_topological_order.specs.Internal.Ordering.{RowAppended}

-- the places of the hops of v before i, all silent, stand behind the first n of the order, which
-- then has r
pub record Putting (hs : List ℕ) (v : ℕ) (sorted : List ℕ) (n : ℕ) (sorted' : List ℕ) (i r : ℕ) : Type 0 where
  pub long : length sorted' ≡ length sorted
  pub passed : first_of hs v ≤ i
  pub within : i ≤ count hs
  pub longer : r + first_of hs v ≡ n + i
  pub few : r ≤ n + tally (count hs) (labelled hs v 0)
  pub few_yet : r ≤ n + tally i (labelled hs v 0)
  pub kept : (k : ℕ) → k < n → get_or sorted' k 0 ≡ get_or sorted k 0
  pub fresh : (k : ℕ) → n ≤ k → k < r → get_or sorted' k 0 + n ≡ k + first_of hs v
  pub silent : (j : ℕ) → first_of hs v ≤ j → j < i → labelled hs v 0 j ≡ true

module _ {hs : List ℕ} {v : ℕ} {sorted : List ℕ} {n : ℕ} where
  pub putting_none : first_of hs v ≤ count hs → Putting hs v sorted n sorted (first_of hs v) n
  putting_none w = record {
    long = refl;
    passed = omega arith;
    within = w;
    longer = refl;
    few = omega arith;
    few_yet = omega arith;
    kept = λ k l. refl;
    fresh = λ k l m. absurd (omega arith);
    silent = λ j l m. absurd (omega arith);
  }

  -- a silent hop of v stands at i
  pub putting_own : {sorted' : List ℕ} {i r : ℕ} → Ascending hs → Putting hs v sorted n sorted' i r → i < first_of hs (v + 1) → label hs i ≡ 0 →
      (i < count hs) × (labelled hs v 0 i ≡ true)
  unfolding past_of
  putting_own {i = i} up p l e =
      let w : i < count hs = omega (arith, first_within hs up (v + 1)) in
      (w, labelled_yes hs v 0 i (range_only hs up v w p.passed l) e)

  -- there is capacity for one more silent hop of v
  pub putting_capacity : {sorted' : List ℕ} {i r : ℕ} → Putting hs v sorted n sorted' i r → i < count hs → labelled hs v 0 i ≡ true →
      r < n + tally (count hs) (labelled hs v 0)
  putting_capacity {i = i} p l e = omega (arith, p.few_yet, tally_past (labelled hs v 0) (count hs) {i = i} l e)

  pub putting_more : {sorted' : List ℕ} {i r : ℕ} → Putting hs v sorted n sorted' i r → i < count hs → labelled hs v 0 i ≡ true → r < length sorted →
      Putting hs v sorted n (set sorted' r i) (i + 1) (r + 1)
  putting_more {sorted'} {i} {r} p l e capacity = record {
    long = length-set sorted' r i ∙ p.long;
    passed = omega (arith, p.passed);
    within = omega arith;
    longer = omega (arith, p.longer);
    few = omega (arith, putting_capacity p l e);
    few_yet = omega (arith, p.few_yet, tally_more (labelled hs v 0) i refl e);
    kept = λ k m. get_or-set_other sorted' r k i 0 (λ q. omega (arith, p.longer, p.passed)) ∙ p.kept k m;
    fresh = λ k a b. go k a (lt_or_le k r) b;
    silent = range_more p.silent e;
  } where
    go : (k : ℕ) → n ≤ k → (k < r) ⊎ (r ≤ k) → k < r + 1 → get_or (set sorted' r i) k 0 + n ≡ k + first_of hs v
    go k a (inl m) b = rw (get_or-set_other sorted' r k i 0 (λ q. omega arith)) (p.fresh k a m)
    go k a (inr m) b =
        let q : k ≡ r = omega arith in
        rw (q, get_or-set_same sorted' r i 0 (rw p.long capacity)) (omega (arith, p.longer))

  -- no silent hop of v stands at i, and so none from there on
  pub putting_done : {sorted' : List ℕ} {i r : ℕ} → Ascending hs → Putting hs v sorted n sorted' i r →
      (i < first_of hs (v + 1) → label hs i ≡ 0 → ⊥) → RowAppended hs v sorted n sorted' r
  unfolding past_of
  putting_done {sorted'} {i} {r} up p g = record {
    long = p.long;
    later = omega (arith, p.longer, p.passed);
    few = p.few;
    kept = p.kept;
    own = λ k a b. let q : get_or sorted' k 0 + n ≡ k + first_of hs v = p.fresh k a b in
        (omega (arith, p.longer, p.within), p.silent (get_or sorted' k 0) (omega arith) (omega (arith, p.longer)));
    every = λ j l e. there j (inside j l e);
  } where
    before : (j : ℕ) → j < labelled_past hs v 0 → (j < i) ⊎ (i ≤ j) → j < i
    before j m (inl k) = k
    before j m (inr k) =
        let (w, d) = labelled_only hs up v 0 {i = i} (omega (arith, silent_first hs v, p.passed)) (omega arith) in
        absurd (g (omega (arith, labelled_past_lem hs up v 0)) (labelled_parts hs v 0 i d).1)

    inside : (j : ℕ) → j < count hs → labelled hs v 0 j ≡ true → (first_of hs v ≤ j) × (j < i)
    inside j l e = let (a, b) = labelled_holds hs up v 0 l e in (omega (arith, silent_first hs v), before j b (lt_or_le j i))

    there : (j : ℕ) → (first_of hs v ≤ j) × (j < i) → (k : ℕ) × (n ≤ k) × (k < r) × (get_or sorted' k 0 ≡ j)
    there j (a, b) =
        let x : n ≤ (n + j) - first_of hs v = omega arith in
        let y : (n + j) - first_of hs v < r = omega (arith, p.longer) in
        ((n + j) - first_of hs v, x, y, omega (arith, p.fresh ((n + j) - first_of hs v) x y))
