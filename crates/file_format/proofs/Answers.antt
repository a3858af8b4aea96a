-- The ways out of the rows of a file, in the order of the checks. Assumes nothing.
use Prim.Native.Nat.{ℕ, ◌+◌, ◌*◌, ◌<◌, ◌≤◌}
use mathlib.Core.Path.{◌≡◌, refl}
use mathlib.Core.Bool.{Bool, true, false}
use mathlib.Core.List.{List}
use native.Mathlib.Nat.{le_refl}
use native.Mathlib.Omega.{arith}
use borrow.Author.Tests.{lt-ltb, le-ltb, le-leb, lt-leb}
use mathlib.Core.Logic.{inr}
use lib.ListN.{length, length-drop}
use Rattle.graph.specs.Answers.{accepted, refused}
use Rattle.file_names.specs.Internal.Block.{most_place, least_name_bytes, Searchable}
use Rattle.file_names.specs.Block.{name_at, first_bad}
use Rattle.file_names.proofs.Blocks.{name_less, name_least}
use Rattle.file_fields.specs.Format.{bit_map, names_place, names_in, rest_of, lines_place, line_bytes_in, needed_length, redundant_bit}
use Rattle.file_format.specs.Rows.{most_bytes, names_answer, format_answer}
use Rattle.file_format.specs.Internal.Rows.{RestAt}
use Rattle.file_fields.proofs.Laws.{names_before_end}

-- "66,536"
pub most_bytes_is : most_bytes ≡ 66536
most_bytes_is = refl

module _ (b : List ℕ) where
  pub over_length : most_bytes < length b → refused 13 most_bytes ≡ format_answer b
  unfolding format_answer
  over_length l = rw (lt-ltb _ _ l)

  module _ (s : length b ≤ most_bytes) where
    pub high_bits : 16 ≤ bit_map b → refused 12 0 ≡ format_answer b
    unfolding format_answer
    high_bits h = rw (le-ltb _ _ s, le-leb _ _ h)

    module _ (h : bit_map b < 16) where
      pub ends_early : length b < needed_length b → refused 11 (length b) ≡ format_answer b
      unfolding format_answer
      ends_early l = rw (le-ltb _ _ s, lt-leb _ _ h, lt-ltb _ _ l)

      pub place_early : {p : ℕ} → p ≡ names_place b → length b < p → refused 11 (length b) ≡ format_answer b
      place_early e l = ends_early (omega (arith, names_before_end b))

      pub left_over : needed_length b < length b → refused 13 (needed_length b) ≡ format_answer b
      unfolding format_answer
      left_over l = rw (le-ltb _ _ s, lt-leb _ _ h, le-ltb (length b) (needed_length b) (omega arith), lt-ltb _ _ l)

      module _ (n : needed_length b ≡ length b) {f : Bool} (e : f ≡ redundant_bit b) where
        pub redundant : f ≡ true → refused 12 0 ≡ format_answer b
        unfolding format_answer
        redundant d = rw (le-ltb _ _ s, lt-leb _ _ h, n, le-ltb _ _ (le_refl (length b)), ← e, d)

        module _ (d : f ≡ false) where
          pub bad_name : first_bad (rest_of b) (names_in b) < names_in b → refused 14 (names_place b + name_at (rest_of b) (first_bad (rest_of b) (names_in b))) ≡ format_answer b
          unfolding format_answer names_answer
          bad_name l = rw (le-ltb _ _ s, lt-leb _ _ h, n, le-ltb _ _ (le_refl (length b)), ← e, d, lt-ltb _ _ l)

          pub names_good : names_in b ≤ first_bad (rest_of b) (names_in b) → accepted ≡ format_answer b
          unfolding format_answer names_answer
          names_good l = rw (le-ltb _ _ s, lt-leb _ _ h, n, le-ltb _ _ (le_refl (length b)), ← e, d, le-ltb _ _ l)

-- where the walk over the names ended, and how many bytes the lines take after it
module _ {b rest : List ℕ} {place : ℕ} (k : RestAt b rest place) {n end lines : ℕ} (m : n ≡ names_in b) (e : end ≡ name_at rest n) (h : lines ≡ line_bytes_in b) where
  pub end_is : place + end ≡ lines_place b
  unfolding lines_place
  end_is = rw (e, m, k.begins, k.follows)

  pub need_is : place + (end + lines) ≡ needed_length b
  unfolding needed_length
  need_is = omega (arith, end_is)

  pub rest_length : length rest + place ≡ length b
  unfolding rest_of
  rest_length = rw (k.follows, length-drop, ← k.begins) (omega (arith, k.within))

  pub rest_early : length rest < end + lines → refused 11 (length b) ≡ format_answer b
  rest_early l = ends_early b k.short k.low (omega (arith, need_is, rest_length))

  pub rest_left : end + lines < length rest → refused 13 (place + (end + lines)) ≡ format_answer b
  rest_left l = rw need_is (left_over b k.short k.low (omega (arith, need_is, rest_length)))

  pub rest_searchable : end + lines ≤ length rest → {places : ℕ} → most_place < least_name_bytes * places → Searchable rest n places
  rest_searchable l g = record { whole = rw (← e) (omega arith); capacity = inr g }

  module _ (l : end + lines ≡ length rest) where
    pub rest_exact : needed_length b ≡ length b
    rest_exact = omega (arith, need_is, rest_length)

    module _ {f : Bool} (d : f ≡ redundant_bit b) where
      pub rest_redundant : f ≡ true → refused 12 0 ≡ format_answer b
      rest_redundant = redundant b k.short k.low rest_exact d

      module _ (t : f ≡ false) {bad : ℕ} (a : bad ≡ name_at rest (first_bad rest n)) where
        pub rest_bad : bad < end → refused 14 (place + bad) ≡ format_answer b
        rest_bad o =
            rw (a, k.begins, k.follows, m)
            (bad_name b k.short k.low rest_exact d t
            (rw (← k.follows, ← m) (name_less rest _ _ (rw (← a, ← e) o))))

        pub rest_good : end ≤ bad → accepted ≡ format_answer b
        rest_good o =
            names_good b k.short k.low rest_exact d t
            (rw (← k.follows, ← m) (name_least rest _ _ (rw (← a, ← e) o)))
