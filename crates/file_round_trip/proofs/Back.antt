-- "A graph written and read again is the same graph with the same block": each field of the written
-- file is found where reading looks for it. And "the longest legal file has 66,536 bytes". Assumes
-- nothing.
use Prim.Native.Nat.{ℕ, ◌+◌, ◌-◌, ◌*◌, ◌/◌, ◌%◌, ◌<◌, ◌≤◌}
use mathlib.Core.Path.{◌≡◌, refl, sym, ap, ◌∙◌}
use mathlib.Core.Bool.{Bool, true, false, cond, not, ◌&&◌}
use mathlib.Core.List.{List, [], ◌++◌, append_assoc, append-nil}
use mathlib.Core.Logic.{⊎_elim}
use native.Mathlib.Omega.{arith}
use borrow.Author.Tests.{eq-eqb, ne_eqb, ltb-false, lt-leb}
use lib.ListN.{length, get_or, drop, length-append, get_or-append}
use lib.Seq.{drop_at, drop-drop, drop-append_seam, take-append_seam}
use lib.Dec.{eqb, leb, ltb}
use Rattle.std.proofs.lemmas.List.{nil_from_length}
use Rattle.graph.specs.Hops.{numbers_a_hop, number_place, count}
use Rattle.graph.specs.Answers.{most_hops, accepted}
use Rattle.graph_check.specs.Check.{check_of, Admitted}
use Rattle.graph.specs.declared.Shape.{Shape}
use Rattle.graph.specs.declared.Answer.{Answer}
use Rattle.base_bounded.proofs.Bools.{decided, eq_or_not, lt_or_le, not_yes, and_no_left, and_no_right, or_no}
use Rattle.graph_check.proofs.Checked.{check_admitted, admitted_check}
use Rattle.graph.proofs.Accepts.{both_accept}
use Rattle.file_names.specs.Block.{most_name_bytes, name_at, first_bad}
use Rattle.file_names.proofs.Blocks.{name_first, name_short}
use Rattle.file_names.proofs.Fronts.{name_same, first_bad_same}
use Rattle.file_numbers.specs.Numbers.{number_at}
use Rattle.file_lines.specs.LineField.{lines_length, zero_lines, any_line, line_list}
use Rattle.file_lines.proofs.Laws.{LinesStand, lines_back, zero_lines_lem, line_back}
use Rattle.file_hops.specs.Field.{hops_in_field, field_bytes}
use Rattle.file_hops.proofs.Field.{length_in_field, count_back, field_back}
use Rattle.file_fields.specs.Format.{initial_place, bit_map, has_initial, has_hops, has_names, has_lines, states_in, labels_in, initial_in, hops_place, hops_in, names_place, names_in, rest_of}
use Rattle.file_fields.specs.Format.{lines_place, line_bytes_in, lines_in, needed_length, shape_in, hop_list_in, block_place, block_length, block_in, redundant_bit}
use Rattle.file_format.specs.Rows.{most_names, most_bytes, format_answer}
use Rattle.file_read.specs.Read.{read_answer}
use Rattle.file_encode.specs.Encode.{bits_of, initial_bytes, hops_bytes, lines_bytes, head_bytes, encode}
use Rattle.file_write.specs.Write.{block_answer, names_given, given_answer}
use Rattle.file_round_trip.specs.RoundTrip.{block_start}
use Rattle.file_encode.proofs.Encoded.{initial_none, initial_some, initial_most, hops_none, hops_some, length_hops_some, hop_bytes_most, lines_none, lines_some, length_lines_some}
use Rattle.file_encode.proofs.Encoded.{line_bytes_most, length_head, length_encode}
use Rattle.file_fields.proofs.Laws.{initial_on, initial_off, hops_on, hops_off, names_on, names_off, lines_on, lines_off}
use Rattle.file_format.proofs.Answers.{names_good}
use Rattle.file_read.proofs.Entry.{none_speaks}
use Rattle.file_format.proofs.Sound.{past}
use Rattle.file_round_trip.specs.RoundTrip.{ReadBack}

-- a bit is set over each field that is there, and no higher bit
abbrev map_of : Bool → Bool → Bool → Bool → ℕ
map_of t u v w = cond t 0 1 + cond u 0 2 + cond v 0 4 + cond w 8 0

four_bits : (t u v w : Bool) → (eqb (map_of t u v w % 2) 1 ≡ not t) × (eqb (map_of t u v w / 2 % 2) 1 ≡ not u) × (eqb (map_of t u v w / 4 % 2) 1 ≡ not v) × (eqb (map_of t u v w / 8 % 2) 1 ≡ w) × (map_of t u v w < 16)
four_bits true true true true = (refl, refl, refl, refl, omega arith)
four_bits true true true false = (refl, refl, refl, refl, omega arith)
four_bits true true false true = (refl, refl, refl, refl, omega arith)
four_bits true true false false = (refl, refl, refl, refl, omega arith)
four_bits true false true true = (refl, refl, refl, refl, omega arith)
four_bits true false true false = (refl, refl, refl, refl, omega arith)
four_bits true false false true = (refl, refl, refl, refl, omega arith)
four_bits true false false false = (refl, refl, refl, refl, omega arith)
four_bits false true true true = (refl, refl, refl, refl, omega arith)
four_bits false true true false = (refl, refl, refl, refl, omega arith)
four_bits false true false true = (refl, refl, refl, refl, omega arith)
four_bits false true false false = (refl, refl, refl, refl, omega arith)
four_bits false false true true = (refl, refl, refl, refl, omega arith)
four_bits false false true false = (refl, refl, refl, refl, omega arith)
four_bits false false false true = (refl, refl, refl, refl, omega arith)
four_bits false false false false = (refl, refl, refl, refl, omega arith)

-- a block of n names that row 14 does not refuse
pub record Legal (ns : List ℕ) (n : ℕ) : Type 0 where
  pub whole : name_at ns n ≡ length ns
  pub clean : n ≤ first_bad ns n

block_legal : (ns : List ℕ) (n : ℕ) → (block_answer ns n).number ≡ 0 → Legal ns n
unfolding block_answer
block_legal ns n e =
    let (p, e1) = past (ltb (length ns) (name_at ns n)) _ _ (λ z. absurd (omega arith)) e in
    let (q, e2) = past (ltb (name_at ns n) (length ns)) _ _ (λ z. absurd (omega arith)) e1 in
    let (r, e3) = past (ltb (first_bad ns n) n) _ _ (λ z. absurd (omega arith)) e2 in
    record { whole = omega (arith, ltb-false (length ns) (name_at ns n) p, ltb-false (name_at ns n) (length ns) q); clean = ltb-false _ _ r }

-- how many names a file of the graph has: none where the block is empty
abbrev named : Shape → List ℕ → ℕ
named sh ns = cond (eqb (length ns) 0) 0 (sh.labels - 1)

pub given_legal : (sh : Shape) (ns : List ℕ) → (names_given sh ns).number ≡ 0 → Legal ns (named sh ns)
unfolding names_given
given_legal sh ns e =
    ⊎_elim (λ z. rw (eq-eqb (length ns) 0 z) (record { whole = sym (name_first ns) ∙ sym z; clean = omega arith }))
    (λ n. rw (ne_eqb (length ns) 0 n) (block_legal ns (sh.labels - 1) (rw (ne_eqb (length ns) 0 n) at e))) (eq_or_not (length ns) 0)

head_long : (sh : Shape) (hs ns : List ℕ) → length (head_bytes sh (bits_of sh hs ns) ++ initial_bytes sh) ≡ initial_place + length (initial_bytes sh)
head_long sh hs ns = rw (length-append (head_bytes sh (bits_of sh hs ns)), length_head sh hs ns)

-- what writing accepts
written_means : (sh : Shape) (hs ns : List ℕ) → (given_answer sh hs ns).number ≡ 0 → Admitted sh hs × Legal ns (named sh ns)
unfolding given_answer
written_means sh hs ns e =
    let (p, q) = both_accept (check_of sh hs) (names_given sh ns) e in (check_admitted sh hs p, given_legal sh ns q)

-- the initial state of a written file
initial_number : (sh : Shape) (hs ns : List ℕ) → (sh.initial ≡ 0 → ⊥) → number_at (encode sh hs ns) initial_place ≡ sh.initial
unfolding encode head_bytes
initial_number sh hs ns n = rw (initial_some sh n) (omega arith)

module _ (sh : Shape) (hs ns : List ℕ) (whole : length hs % numbers_a_hop ≡ 0) where
  abbrev file : List ℕ
  file = encode sh hs ns

  -- what stands behind the hops
  abbrev rest : List ℕ
  rest = ns ++ lines_bytes hs

  bits_back : (has_initial file ≡ not (eqb sh.initial 0)) × (has_hops file ≡ not (eqb (count hs) 0)) × (has_names file ≡ not (eqb (length ns) 0)) × (has_lines file ≡ any_line hs) × (bit_map file < 16)
  unfolding encode head_bytes bits_of has_initial has_hops has_names has_lines
  bits_back = four_bits (eqb sh.initial 0) (eqb (count hs) 0) (eqb (length ns) 0) (any_line hs)

  states_back : states_in file ≡ sh.states
  unfolding encode head_bytes
  states_back = omega arith

  labels_back : labels_in file ≡ sh.labels
  unfolding encode head_bytes
  labels_back = omega arith

  initial_back : (initial_in file ≡ sh.initial) × (hops_place file ≡ initial_place + length (initial_bytes sh))
  initial_back =
      ⊎_elim
      (λ z. let (v, p) = initial_off file (bits_back.0 ∙ rw (eq-eqb sh.initial 0 z)) in (v ∙ sym z, rw (initial_none sh z) p))
      (λ n. let (v, p) = initial_on file (bits_back.0 ∙ rw (ne_eqb sh.initial 0 n)) in (v ∙ initial_number sh hs ns n, rw (initial_some sh n) p))
      (eq_or_not sh.initial 0)

  -- what stands behind the initial state, and behind the hops
  from_hops : drop (hops_place file) file ≡ hops_bytes hs ++ rest
  unfolding encode
  from_hops =
      rw (initial_back.1, ← append_assoc (head_bytes sh (bits_of sh hs ns)) (initial_bytes sh) (hops_bytes hs ++ rest))
      (drop_at (head_bytes sh (bits_of sh hs ns) ++ initial_bytes sh) (hops_bytes hs ++ rest) (initial_place + length (initial_bytes sh)) (head_long sh hs ns))

  from_field : (count hs ≡ 0 → ⊥) → drop (hops_place file) file ≡ field_bytes hs ++ rest
  from_field n = from_hops ∙ rw (hops_some hs n)

  hops_back : (hops_in file ≡ count hs) × (names_place file ≡ hops_place file + length (hops_bytes hs))
  hops_back =
      ⊎_elim
      (λ z. let (v, p) = hops_off file (bits_back.1 ∙ rw (eq-eqb (count hs) 0 z)) in (v ∙ sym z, omega (arith, p, ap length (hops_none hs z))))
      (λ n. let (v, p) = hops_on file (bits_back.1 ∙ rw (ne_eqb (count hs) 0 n)) in
      let counted = count_back file hs rest (hops_place file) (from_field n) in
      (v ∙ counted, omega (arith, p, v, counted, length_hops_some hs n)))
      (eq_or_not (count hs) 0)

  rest_back : rest_of file ≡ rest
  unfolding rest_of
  rest_back =
      ap (λ (k : ℕ). drop k file) hops_back.1 ∙ sym (drop-drop (length (hops_bytes hs)) (hops_place file) file) ∙ ap (drop (length (hops_bytes hs))) from_hops ∙
      drop-append_seam (hops_bytes hs) rest

  count_names_back : names_in file ≡ named sh ns
  count_names_back =
      ⊎_elim (λ z. (names_off file (bits_back.2 ∙ rw (eq-eqb (length ns) 0 z))).0 ∙ rw (eq-eqb (length ns) 0 z))
      (λ y. (names_on file (bits_back.2 ∙ rw (ne_eqb (length ns) 0 y))).0 ∙ rw (ne_eqb (length ns) 0 y, labels_back)) (eq_or_not (length ns) 0)

  module _ (legal : Legal ns (named sh ns)) where
    -- the names are those of the block, whatever follows it
    same_names : (i : ℕ) → i < length ns → get_or ns i 0 ≡ get_or rest i 0
    same_names i l = sym (get_or-append ns (lines_bytes hs) 0 i l)

    lines_place_back : lines_place file ≡ names_place file + length ns
    unfolding lines_place
    lines_place_back =
        rw (rest_back, count_names_back) (omega (arith, legal.whole, name_same ns rest same_names (named sh ns) (omega (arith, legal.whole))))

    clean_back : names_in file ≤ first_bad (rest_of file) (names_in file)
    clean_back = rw (rest_back, count_names_back, ← first_bad_same ns rest same_names (named sh ns) (omega (arith, legal.whole))) legal.clean

    -- the lines
    from_lines : drop (lines_place file) file ≡ lines_bytes hs
    unfolding rest_of
    from_lines =
        ap (λ (k : ℕ). drop k file) lines_place_back ∙ sym (drop-drop (length ns) (names_place file) file) ∙ ap (drop (length ns)) rest_back ∙ drop-append_seam ns (lines_bytes hs)

    lines_stand : any_line hs ≡ true → LinesStand file (lines_place file) hs
    lines_stand e = lines_back file hs [] (lines_place file) (from_lines ∙ lines_some hs e ∙ sym (append-nil (line_list hs)))

    line_bytes_back : line_bytes_in file ≡ length (lines_bytes hs)
    line_bytes_back =
        ⊎_elim (λ e. lines_on file (bits_back.3 ∙ e) ∙ ap lines_length hops_back.0 ∙ sym (length_lines_some hs e))
        (λ e. lines_off file (bits_back.3 ∙ e) ∙ sym (ap length (lines_none hs e))) (decided (any_line hs))

    -- the hops themselves
    list_back : hop_list_in file ≡ hs
    unfolding hop_list_in lines_in
    list_back =
        ap (hops_in_field file (hops_place file) (lines_in file)) hops_back.0 ∙
        ⊎_elim
        (λ z. nil_from_length _ (length_in_field file (hops_place file) (lines_in file) (count hs) ∙ ap number_place z) ∙ sym (nil_from_length hs (omega (arith, whole))))
        (λ n. field_back file hs rest (hops_place file) (from_field n) (lines_in file)
        (line_back file hs (has_lines file) (lines_place file) bits_back.3 (λ e. lines_stand (sym bits_back.3 ∙ e))) whole)
        (eq_or_not (count hs) 0)

    block_back : (block_in file ≡ ns) × (block_length file ≡ length ns) × (block_place file ≡ block_start sh hs ns)
    unfolding block_in rest_of block_start
    block_back =
        ⊎_elim
        (λ z. let (n, p, l) = names_off file (bits_back.2 ∙ rw (eq-eqb (length ns) 0 z)) in
        (rw l (sym (nil_from_length ns z)), l ∙ sym z, p ∙ rw (eq-eqb (length ns) 0 z)))
        (λ y. let (n, p, l) = names_on file (bits_back.2 ∙ rw (ne_eqb (length ns) 0 y)) in
        let long : block_length file ≡ length ns = omega (arith, l, lines_place_back) in
        (rw (p, long, rest_back) (take-append_seam ns (lines_bytes hs)), long, p ∙ rw (ne_eqb (length ns) 0 y) (omega (arith, initial_back.1, hops_back.1, length_encode sh hs ns))))
        (eq_or_not (length ns) 0)

    need_back : needed_length file ≡ length file
    unfolding needed_length
    need_back = omega (arith, lines_place_back, line_bytes_back, initial_back.1, hops_back.1, length_encode sh hs ns)

    -- no bit stands over what absence means
    names_two : (length ns ≡ 0 → ⊥) → 1 < sh.labels
    names_two n = ⊎_elim (λ l. absurd (n (sym legal.whole ∙ ap (name_at ns) (none l) ∙ sym (name_first ns)))) (λ l. l) (lt_or_le sh.labels 2) where
      none : sh.labels < 2 → named sh ns ≡ 0
      none l = rw (ne_eqb _ _ n) (omega arith)

    busy_back : redundant_bit file ≡ false
    unfolding redundant_bit
    busy_back =
        rw (bits_back.0, initial_back.0, bits_back.1, hops_back.0, bits_back.2, labels_back, bits_back.3)
        (or_no (never (eqb sh.initial 0)) (or_no (never (eqb (count hs) 0)) (or_no names_busy lines_busy))) where
          never : (t : Bool) → (not t && t) ≡ false
          never true = refl
          never false = refl

          names_busy : (not (eqb (length ns) 0) && leb sh.labels 1) ≡ false
          names_busy = ⊎_elim (λ z. rw (eq-eqb (length ns) 0 z)) (λ n. rw (ne_eqb (length ns) 0 n, lt-leb _ _ (names_two n))) (eq_or_not (length ns) 0)

          lines_busy : (any_line hs && zero_lines file (lines_place file) (count hs)) ≡ false
          lines_busy =
              ⊎_elim (λ e. and_no_right (any_line hs) (zero_lines_lem file hs (lines_place file) (lines_stand e) ∙ not_yes e))
              (λ e. and_no_left (zero_lines file (lines_place file) (count hs)) e) (decided (any_line hs))

    module _ (a : Admitted sh hs) where
      named_most : named sh ns ≤ most_names
      named_most = ⊎_elim (λ z. rw (eq-eqb (length ns) 0 z) (omega arith)) (λ n. rw (ne_eqb (length ns) 0 n) (omega (arith, a.labels_most))) (eq_or_not (length ns) 0)

      short_back : length file ≤ most_bytes
      short_back =
          omega (arith, length_encode sh hs ns, initial_most sh, hop_bytes_most hs, line_bytes_most hs, a.hops_most, legal.whole, name_short ns (named sh ns) (named sh ns) legal.clean, named_most)

      format_back : format_answer file ≡ accepted
      format_back =
          sym (names_good file short_back bits_back.4 need_back refl busy_back clean_back)

      shape_back : shape_in file ≡ sh
      unfolding shape_in
      shape_back = rw (states_back, labels_back, initial_back.0)

      answer_back : (capacity : ℕ) → length hs ≤ capacity → read_answer file capacity ≡ accepted
      answer_back capacity l =
          sym (none_speaks file capacity refl (ap (λ (x : Answer). x.number) format_back) refl (rw (shape_back, list_back) (ap (λ (x : Answer). x.number) (admitted_check sh hs a))) refl (omega (arith, hops_back.0, whole)))

-- "The longest legal file has 66,536 bytes"
pub longest : (sh : Shape) (hs ns : List ℕ) → (given_answer sh hs ns).number ≡ 0 → length (encode sh hs ns) ≤ most_bytes
longest sh hs ns e = let (a, l) = written_means sh hs ns e in short_back sh hs ns a.whole_hops l a

-- and it has that many where everything is at its limit: 4,096 hops, some of them with a line, and
-- 1,023 names of 32 bytes
pub longest_at_limits : (sh : Shape) (hs ns : List ℕ) → (sh.initial ≡ 0 → ⊥) → length hs ≡ number_place most_hops → any_line hs ≡ true → length ns ≡ most_name_bytes * most_names →
    length (encode sh hs ns) ≡ most_bytes
longest_at_limits sh hs ns i h e n =
    omega (arith, length_encode sh hs ns, ap length (initial_some sh i), length_hops_some hs (λ z. omega arith), length_lines_some hs e)

-- "a graph written and read again is the same graph with the same block"
pub encode_decode : (sh : Shape) (hs ns : List ℕ) (capacity : ℕ) → (given_answer sh hs ns).number ≡ 0 → length hs ≤ capacity → ReadBack sh hs ns (encode sh hs ns) capacity
encode_decode sh hs ns capacity e m =
    let (a, l) = written_means sh hs ns e in
    let t = a.whole_hops in
    record {
      accepts = answer_back sh hs ns t l a capacity m;
      same_contents = rw (shape_back sh hs ns t l a, (hops_back sh hs ns t).0, (block_back sh hs ns t l).1, (block_back sh hs ns t l).2);
      same_hops = list_back sh hs ns t l;
      same_block = (block_back sh hs ns t l).0;
    }
