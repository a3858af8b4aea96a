-- "file ends before its contents": every proper front of an accepted file is refused with 11, at
-- its own length. Assumes nothing.
use Prim.Native.Nat.{ℕ, ◌+◌, ◌-◌, ◌<◌, ◌≤◌}
use mathlib.Core.Path.{◌≡◌, sym, ap, ◌∙◌}
use mathlib.Core.Bool.{true}
use mathlib.Core.List.{List}
use mathlib.Core.Logic.{⊎_elim}
use native.Mathlib.Omega.{arith}
use lib.ListN.{length, get_or, take, get_or-eq_default}
use lib.Seq.{length-take-le, get_or-take, get_or-drop}
use Rattle.graph.specs.Answers.{refused}
use Rattle.base_bounded.proofs.Bools.{decided, lt_or_le}
use Rattle.file_names.specs.Block.{name_at}
use Rattle.file_names.proofs.Fronts.{name_same}
use Rattle.file_numbers.specs.Numbers.{number_at}
use Rattle.file_fields.specs.Format.{labels_place, bit_map, has_initial, has_hops, has_names, has_lines, hops_place, hops_in, names_place, names_in, rest_of, lines_place}
use Rattle.file_fields.specs.Format.{line_bytes_in, needed_length}
use Rattle.file_format.specs.Rows.{format_answer}
use Rattle.file_format.proofs.Answers.{ends_early}
use Rattle.file_fields.proofs.Laws.{names_place_least, names_before_end, hops_on, hops_off}
use Rattle.file_format.proofs.Sound.{Sound}

module _ (b : List ℕ) (k : ℕ) (shorter : k < length b) where
  abbrev pub front : List ℕ
  front = take k b

  front_long : length front ≡ k
  front_long = length-take-le k b (omega arith)

  same_at : (i : ℕ) → i < k → get_or front i 0 ≡ get_or b i 0
  same_at i l = get_or-take k b i 0 l

  number_same : (i : ℕ) → i + 1 < k → number_at front i ≡ number_at b i
  number_same i l = rw (same_at i (omega arith), same_at (i + 1) l)

  -- where the front holds all that its own numbers ask, it asks as much as the whole file
  module _ (enough : needed_length front ≤ k) where
    names_in_front : names_place front ≤ k
    names_in_front = omega (arith, enough, names_before_end front)

    bits_same : bit_map front ≡ bit_map b
    bits_same = same_at 0 (omega (arith, names_in_front, names_place_least front))

    place_same : hops_place front ≡ hops_place b
    unfolding hops_place has_initial
    place_same = rw bits_same

    has_hops_same : has_hops front ≡ has_hops b
    unfolding has_hops
    has_hops_same = rw bits_same

    hops_same : hops_in front ≡ hops_in b
    hops_same = ⊎_elim on (λ e. (hops_off front (has_hops_same ∙ e)).0 ∙ sym (hops_off b e).0) (decided (has_hops b)) where
      on : has_hops b ≡ true → hops_in front ≡ hops_in b
      on e =
          let (v, p) = hops_on front (has_hops_same ∙ e) in
          v ∙ number_same (hops_place front) (omega (arith, names_in_front)) ∙ ap (number_at b) place_same ∙ sym (hops_on b e).0

    names_same : names_place front ≡ names_place b
    unfolding names_place
    names_same = rw (has_hops_same, place_same, hops_same)

    count_same : names_in front ≡ names_in b
    unfolding names_in has_names
    count_same = rw (bits_same, number_same labels_place (omega (arith, names_in_front, names_place_least front)))

    -- a byte of the front's names
    byte_same : (i : ℕ) → names_place front + i < k → get_or (rest_of front) i 0 ≡ get_or (rest_of b) i 0
    unfolding rest_of
    byte_same i l =
        get_or-drop (names_place front) front i 0 ∙ same_at (names_place front + i) l ∙ ap (λ (n : ℕ). get_or b (n + i) 0) names_same ∙ sym (get_or-drop (names_place b) b i 0)

    walk_same : name_at (rest_of front) (names_in front) ≡ name_at (rest_of b) (names_in front)
    unfolding needed_length lines_place
    walk_same = name_same (rest_of front) (rest_of b) {m = k - names_place front} (λ i l. byte_same i (omega arith)) (names_in front) (omega (arith, enough))

    need_same : needed_length b ≡ needed_length front
    unfolding needed_length lines_place line_bytes_in has_lines
    need_same = rw (← names_same, ← count_same, ← walk_same, ← bits_same, ← hops_same)

  module _ (s : Sound b) where
    early : k < needed_length front
    early = ⊎_elim (λ l. l) (λ l. absurd (omega (arith, need_same l, s.exact))) (lt_or_le k (needed_length front))

    low_front : bit_map front < 16
    low_front = ⊎_elim (λ l. omega (arith, same_at 0 l, s.low)) (λ l. omega (arith, get_or-eq_default front 0 {n = 0} (omega (arith, front_long)))) (lt_or_le 0 k)

    pub front_refused : refused 11 k ≡ format_answer front
    front_refused =
        ap (refused 11) (sym front_long) ∙ ends_early front (omega (arith, front_long, s.short)) low_front (omega (arith, front_long, early))
