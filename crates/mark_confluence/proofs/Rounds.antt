-- The rounds of marking are the rounds of a monotone condition on the silent hops, of which there
-- are no more than hops. Assumes nothing.
use Prim.Native.Nat.{ℕ, suc}
use mathlib.Core.Path.{◌≡◌}
use mathlib.Core.Bool.{true, ◌&&◌}
use mathlib.Core.List.{List}
use Rattle.graph.specs.Hops.{count, from, to, has}
use Rattle.graph.proofs.Places.{has_place}
use Rattle.base_fixpoint.specs.Internal.Pairs.{AtMostPairs}
use Rattle.base_fixpoint.specs.Internal.Approximants.{Monotone}
use Rattle.base_fixpoint.proofs.Approximants.{approximant_none, approximant_more, approximant_within}
use Rattle.mark_confluence.specs.Rounds.{closes, silent_hops, survives}
use Rattle.mark_confluence.proofs.Closing.{closes_mono}

module _ (hs : List ℕ) where
  pub closes_monotone : Monotone (closes hs)
  closes_monotone = closes_mono hs

  -- each silent hop stands at a place of the list
  pub silent_listed : AtMostPairs (silent_hops hs) (count hs)
  silent_listed =
      record {
        first = from hs;
        second = to hs;
        place = λ s t e. let p = has_place hs s 0 t e in (p.at, p.within, p.from_is, p.to_is);
      }

  -- "Every silent hop survives 0 rounds."
  pub survives_none : (s t : ℕ) → survives hs 0 s t ≡ has hs s 0 t
  unfolding survives
  survives_none = approximant_none (closes hs) (silent_hops hs)

  -- "It survives k + 1 when the condition above holds with 'in U' read as 'survives k'."
  pub survives_more : (k s t : ℕ) → survives hs (suc k) s t ≡ (has hs s 0 t && closes hs (survives hs k) s t)
  unfolding survives
  survives_more = approximant_more (closes hs) (silent_hops hs)

  -- what survives is a silent hop
  pub survives_silent : (k s t : ℕ) → survives hs k s t ≡ true → has hs s 0 t ≡ true
  unfolding survives
  survives_silent = approximant_within (closes hs) (silent_hops hs)
