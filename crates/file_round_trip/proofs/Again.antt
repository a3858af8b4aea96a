-- "A file read and written again has the same bytes": the file falls into its fields one after the
-- other, and each is written as it stands. Assumes nothing.
use Prim.Native.Nat.{ℕ, ◌+◌, ◌-◌, ◌*◌, ◌/◌, ◌%◌, ◌<◌, ◌≤◌}
use mathlib.Core.Path.{◌≡◌, sym, ap, ◌∙◌}
use mathlib.Core.Bool.{true, false, cond}
use mathlib.Core.List.{List, ◌∷◌, ◌++◌, append-nil}
use mathlib.Core.Logic.{⊎_elim}
use native.Mathlib.Omega.{arith}
use borrow.Author.Tests.{eq-eqb, ne_eqb, not-false}
use lib.ListN.{length, take, drop, length-append, length-drop, take-append-drop}
use lib.Seq.{drop-cons, drop-drop, drop-length}
use lib.Dec.{eqb}
use Rattle.graph.specs.Hops.{count}
use Rattle.base_bounded.proofs.Bools.{decided, eq_or_not}
use Rattle.file_names.specs.Block.{name_at}
use Rattle.file_names.proofs.Blocks.{name_first, name_later}
use Rattle.file_numbers.specs.Numbers.{number, Bytes}
use Rattle.file_numbers.proofs.TwoBytes.{number_again}
use Rattle.file_lines.specs.LineField.{line_place, zero_lines, any_line, line_list}
use Rattle.file_lines.proofs.Laws.{LinesStand, lines_again, zero_lines_lem}
use Rattle.file_hops.specs.Field.{field_bytes}
use Rattle.file_hops.proofs.Field.{field_again, lines_in_field, no_lines_in_field}
use Rattle.file_fields.specs.Format.{states_place, labels_place, initial_place, bit_map, has_initial, has_hops, has_names, has_lines, states_in, labels_in, initial_in, hops_place, hops_in, names_place, names_in, rest_of, lines_place, lines_in, needed_length, shape_in, hop_list_in, block_in}
use Rattle.file_read.specs.Read.{read_answer}
use Rattle.file_encode.specs.Encode.{bits_of, initial_bytes, hops_bytes, lines_bytes, head_bytes, encode}
use Rattle.file_encode.proofs.Encoded.{initial_none, initial_some, hops_none, hops_some, lines_none, lines_some}
use Rattle.file_fields.proofs.Laws.{names_place_least, hops_before_names, names_before_lines, initial_on, initial_off, hops_on, hops_off, names_on, names_off, lines_on, lines_off, count_hop_list}
use Rattle.file_format.proofs.Sound.{Sound, names_within, initial_there, hops_there, names_there, lines_there}
use Rattle.file_read.proofs.Entry.{accepted_sound}

-- the bit over a field stands exactly where the field's number is not 0
bit_over : (n bit k : ℕ) → bit < 2 → (bit ≡ 1 → n ≡ 0 → ⊥) → ((bit ≡ 1 → ⊥) → n ≡ 0) → cond (eqb n 0) 0 k ≡ k * bit
bit_over n bit k l on off =
    ⊎_elim (λ e. rw (ne_eqb n 0 (on e), e) (omega arith))
    (λ e. rw (eq-eqb n 0 (off e), none e) (omega arith)) (eq_or_not bit 1) where
      none : (bit ≡ 1 → ⊥) → bit ≡ 0
      none e = omega arith

-- a number below 16 is its four bits
four_bits : (x : ℕ) → x < 16 → 1 * (x % 2) + 2 * (x / 2 % 2) + 4 * (x / 4 % 2) + 8 * (x / 8 % 2) ≡ x
four_bits x l =
    let p : x / 2 / 2 ≡ x / 4 = omega arith in
    let q : x / 4 / 2 ≡ x / 8 = omega arith in
    let r : x ≡ 2 * (x / 2) + x % 2 = omega arith in
    let t : x / 2 ≡ 2 * (x / 2 / 2) + x / 2 % 2 = omega arith in
    let u : x / 4 ≡ 2 * (x / 4 / 2) + x / 4 % 2 = omega arith in
    let v : x / 8 % 2 ≡ x / 8 = omega arith in
    omega arith

-- where there are no names, the lines begin where they would
no_names : (b : List ℕ) → names_in b ≡ 0 → lines_place b ≡ names_place b
unfolding lines_place
no_names b n = omega (arith, ap (name_at (rest_of b)) n, name_first (rest_of b))

module _ (b : List ℕ) (small : Bytes b) where
  module _ (s : Sound b) where
    initial_again : drop initial_place b ≡ initial_bytes (shape_in b) ++ drop (hops_place b) b
    unfolding shape_in
    initial_again =
        ⊎_elim
        (λ e. let (v, p) = initial_on b e in
        rw (initial_some (shape_in b) (initial_there b s.busy e), v, p) (number_again b small initial_place (omega (arith, hops_before_names b, names_within b s))))
        (λ e. let (v, p) = initial_off b e in rw (initial_none (shape_in b) v, p)) (decided (has_initial b))

    hops_again : drop (hops_place b) b ≡ hops_bytes (hop_list_in b) ++ drop (names_place b) b
    unfolding hop_list_in
    hops_again =
        ⊎_elim
        (λ e. let (v, p) = hops_on b e in
        rw (hops_some (hop_list_in b) (λ z. hops_there b s.busy e (sym (count_hop_list b) ∙ z)))
        (field_again b small (hops_place b) (lines_in b) v (omega (arith, p, names_within b s)) ∙ ap (λ (k : ℕ). field_bytes (hop_list_in b) ++ drop k b) (sym p)))
        (λ e. let (v, p) = hops_off b e in rw (hops_none (hop_list_in b) (count_hop_list b ∙ v), p)) (decided (has_hops b))

    pub block_again : rest_of b ≡ block_in b ++ drop (lines_place b) b
    unfolding block_in rest_of
    block_again =
        ⊎_elim
        (λ e. let (n, p, l) = names_on b e in
        let on_to : names_place b + (lines_place b - names_place b) ≡ lines_place b = omega (arith, names_before_lines b) in
        rw (p, l)
        (sym (take-append-drop (lines_place b - names_place b) (drop (names_place b) b)) ∙ ap (take (lines_place b - names_place b) (drop (names_place b) b) ++◌)
        (drop-drop (lines_place b - names_place b) (names_place b) b ∙ ap (λ (k : ℕ). drop k b) on_to)))
        (λ e. let (n, p, l) = names_off b e in rw l (ap (λ (k : ℕ). drop k b) (sym (no_names b n)))) (decided (has_names b))

    -- the block ends where its names do
    pub block_ends : name_at (rest_of b) (names_in b) ≡ length (block_in b)
    unfolding rest_of lines_place needed_length
    block_ends =
        omega (arith, ap length block_again, length-append (block_in b) (drop (lines_place b) b), length-drop (names_place b) b, length-drop (lines_place b) b, s.exact)

    -- a line of some hop is there exactly if the list of lines is
    lines_stand : has_lines b ≡ true → LinesStand b (lines_place b) (hop_list_in b)
    unfolding hop_list_in lines_in
    lines_stand e = lines_in_field b (hops_place b) (lines_in b) (hops_in b) (lines_place b) (rw e)

    any_line_lem : any_line (hop_list_in b) ≡ has_lines b
    unfolding hop_list_in lines_in
    any_line_lem =
        ⊎_elim
        (λ e. not-false _ (sym (zero_lines_lem b (hop_list_in b) (lines_place b) (lines_stand e)) ∙ ap (zero_lines b (lines_place b)) (count_hop_list b) ∙ lines_there b s.busy e) ∙ sym e)
        (λ e. no_lines_in_field b (hops_place b) (lines_in b) (hops_in b) (rw e) ∙ sym e) (decided (has_lines b))

    lines_at_end : drop (lines_place b) b ≡ lines_bytes (hop_list_in b)
    unfolding needed_length
    lines_at_end = ⊎_elim on off (decided (has_lines b)) where
      on : has_lines b ≡ true → drop (lines_place b) b ≡ lines_bytes (hop_list_in b)
      on e =
          rw (lines_some (hop_list_in b) (any_line_lem ∙ e))
          (lines_again b (hop_list_in b) small (lines_place b) (lines_stand e) (omega (arith, end)) ∙ ap (line_list (hop_list_in b) ++◌) (ap (λ (k : ℕ). drop k b) end ∙ drop-length b) ∙
          append-nil (line_list (hop_list_in b))) where
            end : line_place (lines_place b) (count (hop_list_in b)) ≡ length b
            end = omega (arith, s.exact, lines_on b e, count_hop_list b)

      off : has_lines b ≡ false → drop (lines_place b) b ≡ lines_bytes (hop_list_in b)
      off e = rw (lines_none (hop_list_in b) (any_line_lem ∙ e)) (ap (λ (k : ℕ). drop k b) end ∙ drop-length b) where
        end : lines_place b ≡ length b
        end = omega (arith, s.exact, lines_off b e)

    pub block_some : has_names b ≡ true → 1 ≤ length (block_in b)
    block_some e = omega (arith, block_ends, (names_on b e).0, names_there b s.busy e, name_later (rest_of b) {j = 0} {k = names_in b} (omega arith))

    pub block_none : has_names b ≡ false → length (block_in b) ≡ 0
    unfolding block_in
    block_none e = let (n, p, l) = names_off b e in rw l

    -- byte 0 has a bit over each field that is there
    initial_bit : cond (eqb (initial_in b) 0) 0 1 ≡ 1 * (bit_map b % 2)
    unfolding has_initial
    initial_bit =
        bit_over (initial_in b) (bit_map b % 2) 1 (omega arith) (λ e. initial_there b s.busy (eq-eqb _ 1 e)) (λ e. (initial_off b (ne_eqb _ 1 e)).0)

    hops_bit : cond (eqb (count (hop_list_in b)) 0) 0 2 ≡ 2 * (bit_map b / 2 % 2)
    unfolding has_hops
    hops_bit =
        bit_over (count (hop_list_in b)) (bit_map b / 2 % 2) 2 (omega arith) (λ e z. hops_there b s.busy (eq-eqb _ 1 e) (sym (count_hop_list b) ∙ z))
        (λ e. count_hop_list b ∙ (hops_off b (ne_eqb _ 1 e)).0)

    names_bit : cond (eqb (length (block_in b)) 0) 0 4 ≡ 4 * (bit_map b / 4 % 2)
    unfolding has_names
    names_bit =
        bit_over (length (block_in b)) (bit_map b / 4 % 2) 4 (omega arith) (λ e z. omega (arith, block_some (eq-eqb _ 1 e))) (λ e. block_none (ne_eqb _ 1 e))

    lines_bit : cond (any_line (hop_list_in b)) 8 0 ≡ 8 * (bit_map b / 8 % 2)
    unfolding has_lines
    lines_bit =
        rw any_line_lem
        (⊎_elim (λ e. rw e) (λ e. rw (ne_eqb (bit_map b / 8 % 2) 1 e) (omega arith)) (eq_or_not (bit_map b / 8 % 2) 1))

    bits_again : bits_of (shape_in b) (hop_list_in b) (block_in b) ≡ bit_map b
    unfolding bits_of shape_in
    bits_again = rw (initial_bit, hops_bit, names_bit, lines_bit) (four_bits (bit_map b) s.low)

    same_bytes : encode (shape_in b) (hop_list_in b) (block_in b) ≡ b
    unfolding encode head_bytes shape_in rest_of
    same_bytes =
        rw bits_again
        (sym (drop-cons b 0 0 (omega (arith, names_place_least b, names_within b s)) ∙
        ap (bit_map b ∷◌)
        (number_again b small states_place (omega (arith, names_place_least b, names_within b s)) ∙ ap (number (states_in b) ++◌)
        (number_again b small labels_place (omega (arith, names_place_least b, names_within b s)) ∙ ap (number (labels_in b) ++◌)
        (initial_again ∙ ap (initial_bytes (shape_in b) ++◌) (hops_again ∙ ap (hops_bytes (hop_list_in b) ++◌) (block_again ∙ ap (block_in b ++◌) lines_at_end)))))))

-- "A file read and written again has the same bytes": what `read` accepts, encoded again
pub decode_encode : (b : List ℕ) (capacity : ℕ) → Bytes b → (read_answer b capacity).number ≡ 0 → encode (shape_in b) (hop_list_in b) (block_in b) ≡ b
decode_encode b capacity small e = same_bytes b small (accepted_sound b capacity e)
