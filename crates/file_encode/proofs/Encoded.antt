-- Laws of the parts of a written file. Assumes nothing.
use Prim.Native.Nat.{ℕ, ◌+◌, ◌<◌, ◌≤◌}
use mathlib.Core.Path.{◌≡◌, refl, sym, ap, ◌∙◌}
use mathlib.Core.Bool.{true, false}
use mathlib.Core.List.{List, [], ◌∷◌, ◌++◌, append_assoc}
use mathlib.Core.Logic.{⊎_elim}
use native.Mathlib.Omega.{arith}
use borrow.Author.Tests.{eq-eqb, ne_eqb, lt-ltb, le-ltb}
use lib.ListN.{length, set, length-append}
use lib.Seq.{set_split}
use lib.Dec.{ltb}
use Rattle.graph.specs.Hops.{count}
use Rattle.graph.specs.declared.Shape.{Shape}
use Rattle.base_bounded.proofs.Bools.{decided, eq_or_not}
use Rattle.base_bounded.proofs.Quantifiers.{any_at}
use Rattle.base_outputs.specs.Output.{on_front}
use Rattle.base_outputs.specs.Internal.Output.{over_at}
use Rattle.file_numbers.specs.Numbers.{number}
use Rattle.file_lines.specs.LineField.{lines_length, any_line, line_list}
use Rattle.file_lines.proofs.Laws.{lined, length_lines}
use Rattle.file_hops.specs.Field.{field_length, field_bytes}
use Rattle.file_hops.proofs.Field.{length_field}
use Rattle.file_fields.specs.Format.{states_place, labels_place, initial_place}
use Rattle.file_encode.specs.Encode.{initial_bytes, hops_bytes, lines_bytes, head_bytes, bits_of, encode}
use Rattle.base_outputs.proofs.Front.{front_then, front_next}

module _ (sh : Shape) where
  pub initial_none : sh.initial ≡ 0 → initial_bytes sh ≡ []
  unfolding initial_bytes
  initial_none e = rw (eq-eqb _ _ e)

  pub initial_some : (sh.initial ≡ 0 → ⊥) → initial_bytes sh ≡ number sh.initial
  unfolding initial_bytes
  initial_some n = rw (ne_eqb _ _ n)

  pub initial_most : length (initial_bytes sh) ≤ 2
  initial_most = ⊎_elim (λ e. omega (arith, ap length (initial_none e))) (λ n. omega (arith, ap length (initial_some n))) (eq_or_not sh.initial 0)

module _ (hs : List ℕ) where
  pub hops_none : count hs ≡ 0 → hops_bytes hs ≡ []
  unfolding hops_bytes
  hops_none e = rw (eq-eqb _ _ e)

  pub hops_some : (count hs ≡ 0 → ⊥) → hops_bytes hs ≡ field_bytes hs
  unfolding hops_bytes
  hops_some n = rw (ne_eqb _ _ n)

  pub length_hops_some : (count hs ≡ 0 → ⊥) → length (hops_bytes hs) ≡ field_length (count hs)
  length_hops_some n = rw (hops_some n) (length_field hs)

  pub hop_bytes_most : length (hops_bytes hs) ≤ field_length (count hs)
  hop_bytes_most = ⊎_elim (λ e. omega (arith, ap length (hops_none e))) (λ n. omega (arith, length_hops_some n)) (eq_or_not (count hs) 0)

  pub lines_none : any_line hs ≡ false → lines_bytes hs ≡ []
  unfolding lines_bytes
  lines_none e = rw e

  pub lines_some : any_line hs ≡ true → lines_bytes hs ≡ line_list hs
  unfolding lines_bytes
  lines_some e = rw e

  pub length_lines_some : any_line hs ≡ true → length (lines_bytes hs) ≡ lines_length (count hs)
  length_lines_some e = rw (lines_some e) (length_lines hs)

  pub line_bytes_most : length (lines_bytes hs) ≤ lines_length (count hs)
  line_bytes_most =
      ⊎_elim (λ e. omega (arith, length_lines_some e)) (λ e. omega (arith, ap length (lines_none e))) (decided (any_line hs))

  some_hop : any_line hs ≡ true → 0 < count hs
  unfolding any_line
  some_hop t = let (i, l, e) = any_at (lined hs) (count hs) t in omega arith

  -- there are lines exactly where they take bytes: only a hop has one
  lines_take : (k : ℕ) → ltb k (k + length (lines_bytes hs)) ≡ any_line hs
  lines_take k =
      ⊎_elim (λ t. lt-ltb k (k + length (lines_bytes hs)) (omega (arith, length_lines_some t, some_hop t)) ∙ sym t)
      (λ f. le-ltb k (k + length (lines_bytes hs)) (omega (arith, ap length (lines_none f))) ∙ sym f) (decided (any_line hs))

-- the first five bytes as they are put into an output
pub head_put : (sh : Shape) (bits : ℕ) (old : List ℕ) {one two three : List ℕ} → initial_place ≤ length old → one ≡ set old 0 bits → two ≡ over_at states_place (number sh.states) one →
    three ≡ over_at labels_place (number sh.labels) two → three ≡ on_front (head_bytes sh bits) old
unfolding head_bytes
head_put sh bits old l p q r =
    r ∙ ap (over_at labels_place (number sh.labels)) (q ∙ ap (over_at states_place (number sh.states)) (p ∙ first) ∙ front_then (bits ∷ []) (number sh.states) old) ∙
    front_then ((bits ∷ []) ++ number sh.states) (number sh.labels) old where
      first : set old 0 bits ≡ on_front (bits ∷ []) old
      first = set_split old 0 bits (omega arith)

module _ (sh : Shape) (hs ns : List ℕ) where
  pub length_head : length (head_bytes sh (bits_of sh hs ns)) ≡ initial_place
  unfolding head_bytes
  length_head = refl

  pub length_encode : length (encode sh hs ns) ≡ initial_place + (length (initial_bytes sh) + (length (hops_bytes hs) + (length ns + length (lines_bytes hs))))
  unfolding encode
  length_encode = simp (length-append, length_head) (omega arith)

  -- the five parts, one after the other
  encode_left : (((head_bytes sh (bits_of sh hs ns) ++ initial_bytes sh) ++ hops_bytes hs) ++ ns) ++ lines_bytes hs ≡ encode sh hs ns
  unfolding encode
  encode_left = simp append_assoc

  -- where each stands
  module _ {h n l : ℕ} (a : h ≡ initial_place + length (initial_bytes sh)) (b : n ≡ h + length (hops_bytes hs)) (c : l ≡ n + length ns) where
    -- the file goes on behind the names where there are lines
    pub lines_behind : {size : ℕ} → size ≡ length (encode sh hs ns) → ltb l size ≡ any_line hs
    lines_behind {size} e = let d : size ≡ l + length (lines_bytes hs) = omega (arith, length_encode) in rw d (lines_take hs l)

    pub file_put : (old : List ℕ) {one two three four five : List ℕ} {bits : ℕ} → bits ≡ bits_of sh hs ns → one ≡ on_front (head_bytes sh bits) old →
        two ≡ over_at initial_place (initial_bytes sh) one → three ≡ over_at h (hops_bytes hs) two → four ≡ over_at n ns three → five ≡ over_at l (lines_bytes hs) four →
        five ≡ on_front (encode sh hs ns) old
    file_put old z p q r s t =
        rw (← encode_left)
        (front_next old (((head_bytes sh (bits_of sh hs ns) ++ initial_bytes sh) ++ hops_bytes hs) ++ ns) (lines_bytes hs)
        (front_next old ((head_bytes sh (bits_of sh hs ns) ++ initial_bytes sh) ++ hops_bytes hs) ns
        (front_next old (head_bytes sh (bits_of sh hs ns) ++ initial_bytes sh) (hops_bytes hs)
        (front_next old (head_bytes sh (bits_of sh hs ns)) (initial_bytes sh) (p ∙ ap (λ (n : ℕ). on_front (head_bytes sh n) old) z) q length_head)
        r two_long) s three_long) t four_long) where
          two_long : length (head_bytes sh (bits_of sh hs ns) ++ initial_bytes sh) ≡ h
          two_long = rw (length-append, length_head) (sym a)

          three_long : length ((head_bytes sh (bits_of sh hs ns) ++ initial_bytes sh) ++ hops_bytes hs) ≡ n
          three_long = rw (length-append, two_long) (sym b)

          four_long : length (((head_bytes sh (bits_of sh hs ns) ++ initial_bytes sh) ++ hops_bytes hs) ++ ns) ≡ l
          four_long = rw (length-append, three_long) (sym c)
