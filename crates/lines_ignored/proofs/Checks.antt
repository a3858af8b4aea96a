-- Graphs that differ in lines alone have the same hops, and check answers the same of them. A path
-- between two definitions is their body, with the path of each part in its place. Assumes nothing.
use Prim.Native.Nat.{ℕ, ◌-◌, ◌/◌}
use mathlib.Core.Path.{◌≡◌}
use mathlib.Core.Bool.{not, ◌&&◌, ◌||◌}
use mathlib.Core.List.{List}
use lib.Dec.{eqb, ltb}
use Rattle.base_bounded.specs.Quantifiers.{any, least}
use Rattle.graph.specs.Hops.{numbers_a_hop, count, from, label, to, hop_of, same, is, labelled, has}
use Rattle.graph.specs.declared.Shape.{Shape}
use Rattle.graph.proofs.Ordered.{before_alike}
use Rattle.graph_check.specs.Check.{counts_fit, inside, first_outside, ascends_at, first_not_ascending, check_of}
use Rattle.lines_ignored.specs.DifferInLines.{DifferInLines}

module _ {hs hs' : List ℕ} (un : DifferInLines hs hs') where
  pub count_ignores_lines : count hs ≡ count hs'
  count_ignores_lines = λ d. un.as_long d / numbers_a_hop

  pub from_ignores_lines : (i : ℕ) → from hs i ≡ from hs' i
  from_ignores_lines i = (un.alike i).same_from

  pub label_ignores_lines : (i : ℕ) → label hs i ≡ label hs' i
  label_ignores_lines i = (un.alike i).same_label

  pub to_ignores_lines : (i : ℕ) → to hs i ≡ to hs' i
  to_ignores_lines i = (un.alike i).same_to

  is_same : (s a t i : ℕ) → is hs s a t i ≡ is hs' s a t i
  unfolding is
  is_same s a t i = λ d. same (hop_of (from_ignores_lines i d) (label_ignores_lines i d) (to_ignores_lines i d)) (hop_of s a t)

  pub labelled_ignores_lines : (s a i : ℕ) → labelled hs s a i ≡ labelled hs' s a i
  unfolding labelled
  labelled_ignores_lines s a i = λ d. eqb (from_ignores_lines i d) s && eqb (label_ignores_lines i d) a

  -- the same hops
  pub has_ignores_lines : has hs ≡ has hs'
  unfolding has
  has_ignores_lines = λ d. λ (s a t : ℕ). any (count_ignores_lines d) (λ (i : ℕ). is_same s a t i d)

  falling_same : first_not_ascending hs ≡ first_not_ascending hs'
  unfolding first_not_ascending ascends_at
  falling_same = λ d. least (count_ignores_lines d) (λ (i : ℕ). not (eqb i 0 || before_alike (un.alike (i - 1)) (un.alike i) d))

  module _ (sh : Shape) where
    counts_same : counts_fit sh hs ≡ counts_fit sh hs'
    unfolding counts_fit
    counts_same = rw un.as_long

    outside_same : first_outside sh hs ≡ first_outside sh hs'
    unfolding first_outside inside
    outside_same = λ d. least (count_ignores_lines d)
        (λ (i : ℕ). not (ltb (from_ignores_lines i d) sh.states && ltb (label_ignores_lines i d) sh.labels && ltb (to_ignores_lines i d) sh.states))

    -- rows 1 to 4
    pub check_ignores_lines : check_of sh hs ≡ check_of sh hs'
    unfolding check_of
    check_ignores_lines = rw (counts_same, outside_same, falling_same, count_ignores_lines)
