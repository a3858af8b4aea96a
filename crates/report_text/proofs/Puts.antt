-- Texts written one behind the other are the joined text, and each fits in what is left of the
-- buffer. Lines one behind the other, as a loop writes them. Assumes nothing.
use Prim.Native.Nat.{ℕ, zero, suc, ◌+◌, ◌<◌, ◌≤◌}
use mathlib.Core.Path.{◌≡◌, refl, sym, ap, ◌∙◌}
use mathlib.Core.List.{List, [], ◌∷◌, ◌++◌, append_assoc, append-nil}
use mathlib.Core.Logic.{⊎_elim}
use native.Mathlib.Nat.{eq-or-lt_of_le, le_refl}
use native.Mathlib.Numerals.{add-one}
use native.Mathlib.Omega.{arith}
use lib.ListN.{length, get_or, take, drop, length-append, length-drop, take-append-drop}
use lib.Seq.{length-take-le, take-suc}
use Rattle.base_outputs.specs.Internal.Output.{over_at}
use Rattle.base_outputs.proofs.Front.{over_none, over_then}
use Rattle.report_text.specs.Text.{spaced, spaced_numbers}
use Rattle.report_text.specs.declared.Text.{Text}
use Rattle.base_outputs.specs.Concat.{concat}
use Rattle.report_text.specs.Internal.Text.{HasCapacity, TextWritten}

length_over : (at : ℕ) (text old : List ℕ) → at + length text ≤ length old → length (over_at at text old) ≡ length old
length_over at text old l = rw (length-append, length-append, length-drop, length-take-le at old (omega arith)) (omega arith)

pub written_none : (t : Text) → TextWritten t [] t
written_none t = record { same_buffer = refl; put = record { follows = omega arith; stands = over_none t.at t.out.now } }

-- the same text
module _ {a b : List ℕ} (e : a ≡ b) {t : Text} where
  pub capacity_same : HasCapacity t a → HasCapacity t b
  capacity_same h = rw e at h

  pub written_same : {u : Text} → TextWritten t a u → TextWritten t b u
  written_same w = rw e at w

-- a text behind another
module _ (a b : List ℕ) {t : Text} (h : HasCapacity t (a ++ b)) where
  pub capacity_first : HasCapacity t a
  capacity_first = record { capacity = record { fits = omega (arith, length-append a b) } }

  module _ {u : Text} (w : TextWritten t a u) where
    pub capacity_rest : HasCapacity u b
    capacity_rest =
        record { capacity = record { fits = omega (arith, length-append a b, ap length w.put.stands ∙ length_over t.at a t.out.now capacity_first.capacity.fits) } }

    pub written_then : {v : Text} → TextWritten u b v → TextWritten t (a ++ b) v
    written_then x = record {
      same_buffer = x.same_buffer ∙ w.same_buffer;
      put = record {
        follows = omega (arith, length-append a b);
        stands = x.put.stands ∙ ap (over_at u.at b) w.put.stands ∙ over_then t.at a b t.out.now w.put.follows (omega (arith, capacity_first.capacity.fits));
      };
    }

-- the numbers of a line, the first i being written
numbers_append : (ms ns : List ℕ) → spaced_numbers (ms ++ ns) ≡ spaced_numbers ms ++ spaced_numbers ns
unfolding spaced_numbers
numbers_append [] ns = refl
numbers_append (m ∷ ms) ns = ap (λ (xs : List ℕ). spaced m ++ xs) (numbers_append ms ns) ∙ sym (append_assoc (spaced m) (spaced_numbers ms) (spaced_numbers ns))

numbers_split : (ns : List ℕ) (i : ℕ) → spaced_numbers ns ≡ spaced_numbers (take i ns) ++ spaced_numbers (drop i ns)
numbers_split ns i = ap spaced_numbers (sym (take-append-drop i ns)) ∙ numbers_append (take i ns) (drop i ns)

module _ (ns : List ℕ) {i : ℕ} (l : i < length ns) where
  with_next : spaced_numbers (take (i + 1) ns) ≡ spaced_numbers (take i ns) ++ spaced (get_or ns i 0)
  unfolding spaced_numbers
  with_next = rw (add-one, take-suc ns i 0 l, numbers_append (take i ns) (get_or ns i 0 ∷ []), append-nil (spaced (get_or ns i 0)))

  module _ {t : Text} (h : HasCapacity t (spaced_numbers ns)) {u : Text} (w : TextWritten t (spaced_numbers (take i ns)) u) where
    next_number_capacity : HasCapacity t (spaced_numbers (take i ns) ++ spaced (get_or ns i 0))
    next_number_capacity = capacity_same with_next (capacity_first _ _ (capacity_same (numbers_split ns (i + 1)) h))

    pub numbers_capacity : HasCapacity u (spaced (get_or ns i 0))
    numbers_capacity = capacity_rest _ _ next_number_capacity w

    pub numbers_more : {v : Text} → TextWritten u (spaced (get_or ns i 0)) v → TextWritten t (spaced_numbers (take (i + 1) ns)) v
    numbers_more x = written_same (sym with_next) (written_then _ _ next_number_capacity w x)

-- lines, the first i of n being written
module _ (f : ℕ → List ℕ) where
  lines_within : (n : ℕ) {i : ℕ} → i ≤ n → length (concat i f) ≤ length (concat n f)
  unfolding concat
  lines_within zero {i} l = let q : i ≡ 0 = omega arith in rw q (le_refl 0)
  lines_within (suc n) {i} l =
      ⊎_elim (λ q. rw q (le_refl (length (concat n f ++ f n))))
      (λ m. let h : length (concat i f) ≤ length (concat n f) = lines_within n {i = i} (omega arith) in omega (arith, length-append (concat n f) (f n))) (eq-or-lt_of_le l)

  module _ {t : Text} where
    pub lines_none : TextWritten t (concat 0 f) t
    unfolding concat
    lines_none = written_none t

    module _ (n : ℕ) {i : ℕ} (h : HasCapacity t (concat n f)) (l : i < n) {u : Text} (w : TextWritten t (concat i f) u) where
      next_capacity : HasCapacity t (concat i f ++ f i)
      unfolding concat
      next_capacity = let m : length (concat (suc i) f) ≤ length (concat n f) = lines_within n l in record { capacity = record { fits = omega (arith, h.capacity.fits) } }

      pub lines_capacity : HasCapacity u (f i)
      lines_capacity = capacity_rest (concat i f) (f i) next_capacity w

      pub lines_more : {v : Text} → TextWritten u (f i) v → TextWritten t (concat (i + 1) f) v
      unfolding concat
      lines_more x = rw (add-one i) (written_then (concat i f) (f i) next_capacity w x)
