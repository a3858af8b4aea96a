-- Laws of parts of one width, one after the other: they are put one by one, each then stands at its
-- place, and where each stands, all do. Assumes nothing.
use Prim.Native.Nat.{ℕ, zero, suc, ◌+◌, ◌*◌, ◌<◌, ◌≤◌}
use mathlib.Core.Path.{◌≡◌, sym, ap, ◌∙◌}
use mathlib.Core.List.{List, ◌++◌, append_assoc}
use mathlib.Core.Logic.{⊎_elim}
use native.Mathlib.Nat.{le_of_lt, mul-le-mul_left, mul-zero, mul-suc, eq-or-lt_of_le, le_of_suc-le-suc, not-suc-le-zero}
use native.Mathlib.Numerals.{add-one}
use native.Mathlib.Omega.{arith}
use lib.ListN.{length, drop, length-append}
use lib.Seq.{drop_at}
use Rattle.base_outputs.specs.Internal.Output.{over_at}
use Rattle.base_outputs.proofs.Front.{over_none, over_then}
use Rattle.base_outputs.specs.Concat.{concat}

module _ (f : ℕ → List ℕ) (w : ℕ) where
  -- what stands at each place is all
  pub concat_again : (b : List ℕ) (at n : ℕ) → ((i : ℕ) → i < n → drop (at + w * i) b ≡ f i ++ drop (at + w * suc i) b) → drop at b ≡ concat n f ++ drop (at + w * n) b
  unfolding concat
  concat_again b at zero g = ap (λ (k : ℕ). drop k b) none where
    none : at ≡ at + w * 0
    none = rw (mul-zero w) (omega arith)
  concat_again b at (suc n) g =
      concat_again b at n (λ i l. g i (omega arith)) ∙ ap (concat n f ++◌) (g n (omega arith)) ∙ sym (append_assoc (concat n f) (f n) _)

  module _ (wide : (i : ℕ) → length (f i) ≡ w) where
    pub length_concat : (n : ℕ) → length (concat n f) ≡ w * n
    unfolding concat
    length_concat zero = sym (mul-zero w)
    length_concat (suc n) = rw (length-append, length_concat n, wide n, mul-suc)

    -- each stands at its place
    pub concat_at : (n : ℕ) (rest : List ℕ) {i : ℕ} → i < n → (t : List ℕ) × (drop (w * i) (concat n f ++ rest) ≡ f i ++ t)
    unfolding concat
    concat_at zero rest l = absurd (not-suc-le-zero l)
    concat_at (suc n) rest {i} l =
        rw (append_assoc (concat n f) (f n) rest)
        (⊎_elim (λ e. (rest, rw e (drop_at (concat n f) (f n ++ rest) (w * n) (length_concat n)))) (λ m. concat_at n (f n ++ rest) m) (eq-or-lt_of_le (le_of_suc-le-suc l)))

    -- they are put one after the other
    module _ (at : ℕ) (old : List ℕ) where
      pub concat_none : old ≡ over_at at (concat 0 f) old
      unfolding concat
      concat_none = over_none at old

      pub concat_more : {out out' v : List ℕ} {i n : ℕ} → out ≡ over_at at (concat i f) old → v ≡ f i → out' ≡ over_at (at + w * i) v out → i < n → at + w * n ≤ length old →
          out' ≡ over_at at (concat (i + 1) f) old
      unfolding concat
      concat_more {v = v} {i = i} e h d l m =
          rw (add-one i, ← h)
          (d ∙ ap (over_at (at + w * i) v) e ∙ over_then at (concat i f) v old {k = at + w * i} (ap (at +◌) (sym (length_concat i))) (omega (arith, mul-le-mul_left w (le_of_lt l))))

      pub concat_done : {out : List ℕ} {i n : ℕ} → out ≡ over_at at (concat i f) old → i ≤ n → n ≤ i → out ≡ over_at at (concat n f) old
      concat_done {i = i} {n = n} e l m = let q : n ≡ i = omega arith in rw q e
