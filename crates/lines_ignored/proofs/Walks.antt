-- In graphs that differ in lines alone hops lead to the same states, and so do silent hops: the
-- same states are on rings. Assumes nothing.
use Prim.Native.Nat.{ℕ, zero, suc}
use mathlib.Core.Path.{◌≡◌, refl}
use mathlib.Core.Bool.{Bool, ◌&&◌, ◌||◌}
use mathlib.Core.List.{List}
use lib.Dec.{eqb}
use Rattle.base_bounded.specs.Quantifiers.{any, least}
use Rattle.graph.specs.declared.Shape.{Shape}
use Rattle.walk_reach.specs.Reach.{leads_by}
use Rattle.walk_silent.specs.Silent.{leads, on_ring, lowest_on_ring, ring_answer}
use Rattle.lines_ignored.specs.DifferInLines.{DifferInLines}
use Rattle.lines_ignored.proofs.Checks.{count_ignores_lines, from_ignores_lines, label_ignores_lines, to_ignores_lines, labelled_ignores_lines}

module _ {hs hs' : List ℕ} (un : DifferInLines hs hs') where
  pub leads_by_ignores_lines : {c c' : ℕ → Bool} → c ≡ c' → (k s t : ℕ) → leads_by hs c k s t ≡ leads_by hs' c' k s t
  unfolding leads_by
  leads_by_ignores_lines e zero s t = refl
  leads_by_ignores_lines e (suc k) s t = λ d. eqb s t ||
      any (count_ignores_lines un d) (λ (i : ℕ). (eqb (from_ignores_lines un i d) s && e d i) && leads_by_ignores_lines e k (to_ignores_lines un i d) t d)

  pub leads_ignores_lines : (k s t : ℕ) → leads hs k s t ≡ leads hs' k s t
  leads_ignores_lines = leads_by_ignores_lines (λ d. λ (i : ℕ). eqb (label_ignores_lines un i d) 0)

  ring_same : (n s : ℕ) → on_ring hs n s ≡ on_ring hs' n s
  unfolding on_ring
  ring_same n s = λ d. any (count_ignores_lines un d) (λ (i : ℕ). labelled_ignores_lines un s 0 i d && leads_ignores_lines n (to_ignores_lines un i d) s d)

  module _ (sh : Shape) where
    lowest_same : lowest_on_ring sh hs ≡ lowest_on_ring sh hs'
    unfolding lowest_on_ring
    lowest_same = λ d. least sh.states (λ (s : ℕ). ring_same sh.states s d)

    -- row 5
    pub ringless_ignores_lines : ring_answer sh hs ≡ ring_answer sh hs'
    unfolding ring_answer
    ringless_ignores_lines = rw lowest_same
