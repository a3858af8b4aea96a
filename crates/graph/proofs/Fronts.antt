-- Laws of hops written at the front of a flat list: what then stands at a place, and that what lies
-- past the front stays. Assumes nothing.
use Prim.Native.Nat.{ℕ, zero, suc, ◌+◌, ◌-◌, ◌<◌, ◌≤◌}
use mathlib.Core.Path.{◌≡◌, refl, sym, ap, ◌∙◌}
use mathlib.Core.List.{List, [], ◌∷◌, ◌++◌, append_assoc}
use mathlib.Core.Logic.{⊎_elim}
use native.Mathlib.Nat.{eq-or-lt_of_le, le_of_suc-le-suc, not-suc-le-zero}
use native.Mathlib.Numerals.{add-one}
use native.Mathlib.Omega.{arith}
use lib.ListN.{length, get_or, set, drop, length-append, length-drop, length-set, get_or-append}
use lib.Seq.{drop-cons, drop-drop, drop-append-add, get_or_at, take_at, ext_get_or}
use Rattle.graph.specs.Hops.{count, from, label, to, line_at, lined_hop, hop_at, Alike, flat, between, number_place}
use Rattle.graph.specs.Internal.Hops.{no_hop, put, front, over}
use Rattle.graph.specs.declared.Hop.{Hop}
use Rattle.graph.proofs.Places.{length_flat, count_flat, flat_at}

-- a place of a list with the numbers of a hop in front
module _ (x : Hop) (l : List ℕ) (j : ℕ) {i : ℕ} (e : i ≡ suc (suc (suc (suc j)))) where
  get_d_later : get_or (x.from ∷ x.label ∷ x.to ∷ x.line ∷ l) i 0 ≡ get_or l j 0
  get_d_later = ap (λ (k : ℕ). get_or (x.from ∷ x.label ∷ x.to ∷ x.line ∷ l) k 0) e

  set_later : (v : ℕ) → set (x.from ∷ x.label ∷ x.to ∷ x.line ∷ l) i v ≡ x.from ∷ x.label ∷ x.to ∷ x.line ∷ set l j v
  set_later v = ap (λ (k : ℕ). set (x.from ∷ x.label ∷ x.to ∷ x.line ∷ l) k v) e

module _ (rest : List ℕ) where
  pub hop_flat : (xs : List Hop) {i : ℕ} → i < length xs → hop_at (flat xs ++ rest) i ≡ get_or xs i no_hop
  unfolding flat
  hop_flat [] l = absurd (not-suc-le-zero l)
  hop_flat (x ∷ xs) {i = zero} l = refl
  hop_flat (x ∷ xs) {i = suc i} l = same ∙ hop_flat xs (le_of_suc-le-suc l) where
    same : hop_at (flat (x ∷ xs) ++ rest) (suc i) ≡ hop_at (flat xs ++ rest) i
    same = λ d. lined_hop
        (get_d_later x (flat xs ++ rest) (number_place i) {i = number_place (suc i)} (omega arith) d)
        (get_d_later x (flat xs ++ rest) (number_place i + 1) {i = number_place (suc i) + 1} (omega arith) d)
        (get_d_later x (flat xs ++ rest) (number_place i + 2) {i = number_place (suc i) + 2} (omega arith) d)
        (get_d_later x (flat xs ++ rest) (number_place i + 3) {i = number_place (suc i) + 3} (omega arith) d)

  pub put_flat : (h : Hop) (xs : List Hop) {i : ℕ} → i < length xs → put (flat xs ++ rest) i h ≡ flat (set xs i h) ++ rest
  unfolding flat
  put_flat h [] l = absurd (not-suc-le-zero l)
  put_flat h (x ∷ xs) {i = zero} l = refl
  put_flat h (x ∷ xs) {i = suc i} l =
      ap (λ (m : List ℕ). set (set (set m (at + 1) h.label) (at + 2) h.to) (at + 3) h.line) (set_later x _ (number_place i) {i = at} (omega arith) h.from) ∙
      ap (λ (m : List ℕ). set (set m (at + 2) h.to) (at + 3) h.line) (set_later x _ (number_place i + 1) {i = at + 1} (omega arith) h.label) ∙
      ap (λ (m : List ℕ). set m (at + 3) h.line) (set_later x _ (number_place i + 2) {i = at + 2} (omega arith) h.to) ∙
      set_later x _ (number_place i + 3) {i = at + 3} (omega arith) h.line ∙
      ap (λ (m : List ℕ). x.from ∷ x.label ∷ x.to ∷ x.line ∷ m) (put_flat h xs (le_of_suc-le-suc l)) where
        at : ℕ
        at = number_place (suc i)

-- the front of a list over which hops were written, as a part of it
pub flat_front : (xs : List Hop) (rest : List ℕ) {n : ℕ} → n ≡ length xs → between (flat xs ++ rest) 0 n ≡ flat xs
flat_front xs rest {n} e = take_at (flat xs) rest (number_place n - number_place 0) (omega (arith, length_flat xs))

flat_append : (xs ys : List Hop) → flat (xs ++ ys) ≡ flat xs ++ flat ys
unfolding flat
flat_append [] ys = refl
flat_append (x ∷ xs) ys = ap (λ (m : List ℕ). x.from ∷ x.label ∷ x.to ∷ x.line ∷ m) (flat_append xs ys)

-- the first hops of a list
module _ (hs : List ℕ) where
  pub length_front : (n : ℕ) → length (front n hs) ≡ n
  unfolding front
  length_front zero = refl
  length_front (suc n) = rw (length-append, length_front n, add-one)

  pub get_d_front : (n : ℕ) {i : ℕ} → i < n → get_or (front n hs) i no_hop ≡ hop_at hs i
  unfolding front
  get_d_front zero l = absurd (not-suc-le-zero l)
  get_d_front (suc n) {i} l =
      ⊎_elim (λ q. get_or_at (front n hs) (hop_at hs n) [] no_hop i (length_front n ∙ sym q) ∙ ap (hop_at hs) (sym q))
      (λ m. get_or-append (front n hs) (hop_at hs n ∷ []) no_hop i (rw (length_front n) m) ∙ get_d_front n m)
      (eq-or-lt_of_le (le_of_suc-le-suc l))

-- a list with hops written at its front
module _ (hs : List ℕ) where
  over_is : (xs : List Hop) → over xs hs ≡ flat xs ++ drop (number_place (length xs)) hs
  unfolding over
  over_is xs = rw length_flat

  pub over_front : (n : ℕ) → n ≤ count hs → over (front n hs) hs ≡ hs
  unfolding front flat
  over_front n l = over_is (front n hs) ∙ rw (length_front hs n) (go n l) where
    whole_hop : (n : ℕ) → n < count hs → drop (number_place n) hs ≡ from hs n ∷ label hs n ∷ to hs n ∷ line_at hs n ∷ drop (number_place (suc n)) hs
    whole_hop n l =
        drop-cons hs (number_place n) 0 (omega arith) ∙
        ap (λ (m : List ℕ). from hs n ∷ m) (ap (λ (k : ℕ). drop k hs) (sym (add-one (number_place n))) ∙ drop-cons hs (number_place n + 1) 0 (omega arith)) ∙
        ap (λ (m : List ℕ). from hs n ∷ label hs n ∷ m) (ap (λ (k : ℕ). drop k hs) two ∙ drop-cons hs (number_place n + 2) 0 (omega arith)) ∙
        ap (λ (m : List ℕ). from hs n ∷ label hs n ∷ to hs n ∷ m) (ap (λ (k : ℕ). drop k hs) three ∙ drop-cons hs (number_place n + 3) 0 (omega arith)) ∙
        ap (λ (k : ℕ). from hs n ∷ label hs n ∷ to hs n ∷ line_at hs n ∷ drop k hs) four where
          two : suc (number_place n + 1) ≡ number_place n + 2
          two = omega arith

          three : suc (number_place n + 2) ≡ number_place n + 3
          three = omega arith

          four : suc (number_place n + 3) ≡ number_place (suc n)
          four = omega arith

    go : (n : ℕ) → n ≤ count hs → flat (front n hs) ++ drop (number_place n) hs ≡ hs
    go zero l = refl
    go (suc n) l =
        ap (λ (m : List ℕ). m ++ drop (number_place (suc n)) hs) (flat_append (front n hs) (hop_at hs n ∷ [])) ∙
        append_assoc (flat (front n hs)) (flat (hop_at hs n ∷ [])) (drop (number_place (suc n)) hs) ∙
        ap (λ (m : List ℕ). flat (front n hs) ++ m) (sym (whole_hop n (omega arith))) ∙ go n (omega arith)

  pub hop_over : (xs : List Hop) {i : ℕ} → i < length xs → hop_at (over xs hs) i ≡ get_or xs i no_hop
  unfolding over
  hop_over xs l = hop_flat _ xs l

  pub put_over : (h : Hop) (xs : List Hop) {i : ℕ} → i < length xs → put (over xs hs) i h ≡ over (set xs i h) hs
  put_over h xs {i} l =
      ap (λ (m : List ℕ). put m i h) (over_is xs) ∙ put_flat _ h xs l ∙
      ap (λ (k : ℕ). flat (set xs i h) ++ drop (number_place k) hs) (sym (length-set xs i h)) ∙ sym (over_is (set xs i h))

  pub length_over : (xs : List Hop) → length xs ≤ count hs → length (over xs hs) ≡ length hs
  unfolding over
  length_over xs l = simp (length-append, length-drop, length_flat) (omega arith)

  pub front_over : (xs : List Hop) → front (length xs) (over xs hs) ≡ xs
  front_over xs =
      ext_get_or no_hop (front (length xs) (over xs hs)) xs (length_front (over xs hs) (length xs))
      (λ i l. let k : i < length xs = omega (arith, length_front (over xs hs) (length xs)) in get_d_front (over xs hs) (length xs) k ∙ hop_over xs k)

  pub over_flat : (xs : List Hop) → between (over xs hs) 0 (length xs) ≡ flat xs
  unfolding over
  over_flat xs = flat_front xs _ refl

  pub over_over : (xs ys : List Hop) → length xs ≤ length ys → over ys (over xs hs) ≡ over ys hs
  unfolding over
  over_over xs ys l = ap (λ (m : List ℕ). flat ys ++ m) past where
    gap : ℕ
    gap = length (flat ys) - length (flat xs)

    split : length (flat xs) + gap ≡ length (flat ys)
    split = omega (arith, length_flat xs, length_flat ys)

    past : drop (length (flat ys)) (flat xs ++ drop (length (flat xs)) hs) ≡ drop (length (flat ys)) hs
    past = rw (← split) (drop-append-add (flat xs) (drop (length (flat xs)) hs) gap ∙ drop-drop gap (length (flat xs)) hs)

-- the first hops of a list, as a part of it
module _ (hs : List ℕ) {n : ℕ} (l : n ≤ count hs) where
  between_front : between hs 0 n ≡ flat (front n hs)
  unfolding over
  between_front = ap (λ (m : List ℕ). between m 0 n) (sym (over_front hs n l)) ∙ flat_front (front n hs) _ (sym (length_front hs n))

  pub between_count : count (between hs 0 n) ≡ n
  between_count = ap count between_front ∙ count_flat (front n hs) ∙ length_front hs n

  pub between_at : {i : ℕ} → i < n → hop_at (between hs 0 n) i ≡ hop_at hs i
  between_at {i} k = ap (λ (m : List ℕ). hop_at m i) between_front ∙ flat_at (front n hs) i ∙ get_d_front hs n k

-- lists whose first hops are alike and of one line, and whose other hops have one flat list, have
-- one flat list
pub flat_alike : {x y : Hop} (xs ys : List Hop) → Alike x y → x.line ≡ y.line → flat xs ≡ flat ys → flat (x ∷ xs) ≡ flat (y ∷ ys)
unfolding flat
flat_alike xs ys e k r = rw (e.same_from, e.same_label, e.same_to, k, r)

-- lists of hops that have one flat list are as long, and leave the same where they are written
module _ (xs ys : List Hop) (e : flat xs ≡ flat ys) where
  pub flat_length : length xs ≡ length ys
  flat_length = sym (count_flat xs) ∙ ap count e ∙ count_flat ys

  pub flat_over : (hs : List ℕ) → over xs hs ≡ over ys hs
  unfolding over
  flat_over hs = rw e
