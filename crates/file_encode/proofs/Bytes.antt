-- The bytes of a list put at a place, one after the other. Assumes nothing.
use Prim.Native.Nat.{ℕ, ◌+◌, ◌<◌, ◌≤◌}
use mathlib.Core.Path.{◌≡◌, sym, ap, ◌∙◌}
use mathlib.Core.List.{List}
use native.Mathlib.Numerals.{add-one}
use native.Mathlib.Omega.{arith}
use lib.ListN.{length, take, set, get_or}
use lib.Seq.{length-take-le, take-suc, take_all}
use Rattle.base_outputs.specs.Internal.Output.{over_at}
use Rattle.base_outputs.proofs.Front.{over_more, over_none}

module _ (at : ℕ) (old hs : List ℕ) where
  pub bytes_none : old ≡ over_at at (take 0 hs) old
  bytes_none = over_none at old

  pub bytes_more : {out : List ℕ} {i : ℕ} → out ≡ over_at at (take i hs) old → i < length hs → at + length hs ≤ length old →
      set out (at + i) (get_or hs i 0) ≡ over_at at (take (i + 1) hs) old
  bytes_more {i = i} e l f =
      rw (e, add-one, take-suc hs i 0 l) (ap (λ (n : ℕ). set (over_at at (take i hs) old) (at + n) (get_or hs i 0)) (sym sized) ∙ over_more at (take i hs) old (get_or hs i 0) (omega (arith, sized))) where
        sized : length (take i hs) ≡ i
        sized = length-take-le i hs (omega arith)

  pub bytes_done : {out : List ℕ} {i : ℕ} → out ≡ over_at at (take i hs) old → i ≤ length hs → length hs ≤ i → out ≡ over_at at hs old
  bytes_done {i = i} e l m = rw (take_all i hs m) at e
