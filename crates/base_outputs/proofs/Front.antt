-- Laws of a list written over the front or a part of an older one, one element at a time or part
-- after part. Assumes nothing.
use Prim.Native.Nat.{ℕ, suc, ◌+◌, ◌-◌, ◌<◌, ◌≤◌}
use mathlib.Core.Path.{◌≡◌, refl, sym, ap, ◌∙◌}
use mathlib.Core.List.{List, [], ◌∷◌, ◌++◌, append_assoc, append-nil}
use native.Mathlib.Numerals.{add-one}
use native.Mathlib.Omega.{arith}
use lib.ListN.{length, take, drop, set, get_or, length-append, take-append-drop}
use lib.Seq.{length-take-le, set_at, drop-cons, take_at, take-append_seam, drop-append-add, drop-drop, get_or-append-add, get_or-drop, drop-length}
use Rattle.base_bounded.specs.Quantifiers.{tabulate}
use Rattle.base_bounded.proofs.Quantifiers.{length_tabulate}
use Rattle.base_outputs.specs.Output.{on_front}
use Rattle.base_outputs.specs.Internal.Output.{over_at}

-- one element more
pub over_more : (at : ℕ) (s old : List ℕ) (v : ℕ) → at + length s < length old → set (over_at at s old) (at + length s) v ≡ over_at at (s ++ (v ∷ [])) old
over_more at s old v l =
    rw (drop-cons old (at + length s) 0 l, ← append_assoc (take at old) s, set_at (take at old ++ s) (get_or old (at + length s) 0) (drop (suc (at + length s)) old) v (at + length s) head)
    (rw (append_assoc (take at old) s, append_assoc s (v ∷ []), length-append s (v ∷ []), past)) where
      head : length (take at old ++ s) ≡ at + length s
      head = rw (length-append, length-take-le at old (omega arith))

      past : at + (length s + 1) ≡ suc (at + length s)
      past = omega arith

pub over_none : (at : ℕ) (old : List ℕ) → old ≡ over_at at [] old
over_none at old = rw (zero_right) (sym (take-append-drop at old)) where
  zero_right : at + 0 ≡ at
  zero_right = omega arith

-- a part more, behind the one before
pub over_then : (at : ℕ) (s t old : List ℕ) {k : ℕ} → k ≡ at + length s → k ≤ length old → over_at k t (over_at at s old) ≡ over_at at (s ++ t) old
over_then at s t old {k} e l =
    rw (e, ← append_assoc (take at old) s, take_at (take at old ++ s) (drop (at + length s) old) (at + length s) head, tail)
    (rw (append_assoc (take at old) s, append_assoc s t, length-append s t, ← plus_assoc)) where
      head : length (take at old ++ s) ≡ at + length s
      head = rw (length-append, length-take-le at old (omega arith))

      tail : drop (at + length s + length t) ((take at old ++ s) ++ drop (at + length s) old) ≡ drop (at + length s + length t) old
      tail = ap (λ (n : ℕ). drop (n + length t) ((take at old ++ s) ++ drop (at + length s) old)) (sym head) ∙ drop-append-add (take at old ++ s) (drop (at + length s) old) (length t) ∙ drop-drop (length t) (at + length s) old

      plus_assoc : at + length s + length t ≡ at + (length s + length t)
      plus_assoc = omega arith

-- one element more on the front
pub front_more : (s old : List ℕ) (v : ℕ) → length s < length old → set (on_front s old) (length s) v ≡ on_front (s ++ (v ∷ [])) old
front_more s old v l =
    rw (drop-cons old (length s) 0 l, set_at s (get_or old (length s) 0) (drop (suc (length s)) old) v (length s) refl)
    (rw (append_assoc s (v ∷ []), length-append s (v ∷ []), add-one))

-- a part more, behind the front
pub front_then : (s t old : List ℕ) → over_at (length s) t (on_front s old) ≡ on_front (s ++ t) old
front_then s t old =
    rw (take-append_seam s, drop-append-add s, drop-drop, length-append, append_assoc)

pub front_next : (old s t : List ℕ) {out out' : List ℕ} {k : ℕ} → out ≡ on_front s old → out' ≡ over_at k t out → length s ≡ k → out' ≡ on_front (s ++ t) old
front_next old s t {k = k} e d l = d ∙ ap (over_at k t) e ∙ ap (λ (n : ℕ). over_at n t (on_front s old)) (sym l) ∙ front_then s t old

-- past the front stands what was there
pub front_past : (new old : List ℕ) {i : ℕ} → length new ≤ i → get_or (on_front new old) i 0 ≡ get_or old i 0
front_past new old {i} l = on (i - length new) (omega arith) where
  on : (k : ℕ) → i ≡ length new + k → get_or (on_front new old) i 0 ≡ get_or old i 0
  on k e = rw e (get_or-append-add new (drop (length new) old) k 0 ∙ get_or-drop (length new) old k 0)

-- a front as long as the whole is the whole
pub front_all : (new old : List ℕ) → length new ≡ length old → on_front new old ≡ new
front_all new old e = rw (e, drop-length old, append-nil)

-- the numbers of a list, one after the other
module _ (f : ℕ → ℕ) (old : List ℕ) where
  pub tabulate_none : old ≡ on_front (tabulate 0 f) old
  unfolding tabulate
  tabulate_none = refl

  pub tabulate_more : {out : List ℕ} {i v : ℕ} → out ≡ on_front (tabulate i f) old → v ≡ f i → i < length old → set out i v ≡ on_front (tabulate (i + 1) f) old
  unfolding tabulate
  tabulate_more {i = i} e d l =
      rw (e, d, add-one)
      (ap (λ (k : ℕ). set (on_front (tabulate i f) old) k (f i)) (sym (length_tabulate f i)) ∙ front_more (tabulate i f) old (f i) (rw (length_tabulate f i) l))

  pub tabulate_done : {out : List ℕ} {i n : ℕ} → out ≡ on_front (tabulate i f) old → i ≤ n → n ≤ i → out ≡ on_front (tabulate n f) old
  tabulate_done {i = i} {n = n} e l m = let q : n ≡ i = omega arith in rw q e
