-- A hop may be sought by numbers of 16 bits: among numbers below 65,535 a larger one counts as
-- 65,535 does, so in an admitted graph the hops before the hop are the same, and it stands there
-- exactly where the one asked for does. Assumes nothing.
use Prim.Native.Nat.{ℕ, ◌<◌, ◌≤◌}
use mathlib.Core.Path.{◌≡◌, sym, ◌∙◌}
use mathlib.Core.List.{List}
use mathlib.Core.Logic.{⊎_elim}
use native.Mathlib.Omega.{arith}
use borrow.Author.Tests.{lt-ltb, le-ltb, ne_eqb}
use lib.Dec.{eqb, ltb}
use Rattle.std.proofs.lemmas.Bool.{cases_lt}
use Rattle.graph.specs.Hops.{count, from, label, to, hop_of, hop_at, is, has}
use Rattle.graph.specs.Order.{before}
use Rattle.graph_check.specs.Check.{Admitted}
use Rattle.graph.specs.declared.Shape.{Shape}
use Rattle.base_bounded.proofs.Quantifiers.{any_same, tally_same}
use Rattle.graph_find.specs.Find.{hops_before}
use Rattle.graph_find.specs.Internal.Find.{saturated}

-- a number below 65,535 stands for itself, and 65,535 for any other
pub saturate_fits : (x : ℕ) → x < 65535 → x ≡ saturated x
unfolding saturated
saturate_fits x l = rw (lt-ltb _ _ l)

pub saturate_large : (x : ℕ) → 65535 ≤ x → 65535 ≡ saturated x
unfolding saturated
saturate_large x l = rw (le-ltb _ _ l)

-- a number below 65,535 is compared alike
module _ (y x : ℕ) (l : y < 65535) where
  ltb_narrowed : ltb y (saturated x) ≡ ltb y x
  ltb_narrowed =
      ⊎_elim (λ k. rw (← saturate_fits x k)) (λ k. rw (← saturate_large x k) (lt-ltb y 65535 l ∙ sym (lt-ltb y x (omega arith))))
      (cases_lt x 65535)

  eqb_narrowed : eqb y (saturated x) ≡ eqb y x
  eqb_narrowed =
      ⊎_elim (λ k. rw (← saturate_fits x k))
      (λ k. rw (← saturate_large x k) (ne_eqb y 65535 (λ e. omega arith) ∙ sym (ne_eqb y x (λ e. omega arith))))
      (cases_lt x 65535)

module _ {sh : Shape} {hs : List ℕ} (ok : Admitted sh hs) (s a t : ℕ) where
  -- at each place the hop that is sought is compared as the one asked for
  module _ (i : ℕ) (l : i < count hs) where
    froms : from hs i < 65535
    froms = omega (arith, ok.range.from_in i l, ok.states_most)

    labels : label hs i < 65535
    labels = omega (arith, ok.range.label_in i l, ok.labels_most)

    tos : to hs i < 65535
    tos = omega (arith, ok.range.to_in i l, ok.states_most)

    before_narrowed : before (hop_at hs i) (hop_of (saturated s) (saturated a) (saturated t)) ≡ before (hop_at hs i) (hop_of s a t)
    unfolding before
    before_narrowed =
        rw (ltb_narrowed _ s froms, eqb_narrowed _ s froms, ltb_narrowed _ a labels, eqb_narrowed _ a labels, ltb_narrowed _ t tos)

    is_narrowed : is hs (saturated s) (saturated a) (saturated t) i ≡ is hs s a t i
    unfolding is
    is_narrowed = rw (eqb_narrowed _ s froms, eqb_narrowed _ a labels, eqb_narrowed _ t tos)

  pub hops_before_saturated : hops_before hs (saturated s) (saturated a) (saturated t) ≡ hops_before hs s a t
  unfolding hops_before
  hops_before_saturated = tally_same _ _ (count hs) before_narrowed

  pub has_saturated : has hs (saturated s) (saturated a) (saturated t) ≡ has hs s a t
  unfolding has
  has_saturated = any_same _ _ (count hs) is_narrowed
