-- Laws of the fields of a file. Assumes nothing.
use Prim.Native.Nat.{ℕ, ◌+◌, ◌-◌, ◌≤◌}
use mathlib.Core.Path.{◌≡◌, ap, ◌∙◌}
use mathlib.Core.Bool.{Bool, true, false, cond}
use mathlib.Core.List.{List}
use native.Mathlib.Nat.{le_refl}
use native.Mathlib.Omega.{arith}
use lib.ListN.{length, take, drop, length-drop}
use lib.Seq.{take_all}
use Rattle.file_numbers.specs.Internal.Numbers.{most_number}
use Rattle.file_numbers.specs.Numbers.{number_at, Bytes}
use Rattle.file_lines.specs.LineField.{lines_length}
use Rattle.file_lines.specs.Internal.LineField.{LinesLie}
use Rattle.std.specs.Prelude.{Option}
use mathlib.Core.Logic.{⊎_elim}
use Rattle.base_bounded.proofs.Bools.{decided}
use Rattle.file_hops.specs.Field.{field_length}
use Rattle.file_hops.specs.Internal.Field.{HopsLie}
use Rattle.file_hops.proofs.Field.{length_in_field, count_in_field}
use Rattle.graph.specs.Hops.{number_place, count}
use Rattle.file_fields.specs.Format.{hop_list_in, initial_place, has_initial, has_hops, has_names, has_lines, labels_in, initial_in, hops_place, hops_in, names_place, names_in, rest_of, lines_place, line_bytes_in, lines_in, needed_length, block_place, block_length}

module _ (b : List ℕ) where
  pub hops_place_most : hops_place b ≤ initial_place + 2
  unfolding hops_place
  hops_place_most = go (has_initial b) where
    go : (t : Bool) → cond t (initial_place + 2) initial_place ≤ initial_place + 2
    go true = omega arith
    go false = omega arith

  pub names_place_least : initial_place ≤ names_place b
  unfolding names_place hops_place
  names_place_least = go (has_initial b) (has_hops b) where
    go : (t u : Bool) → initial_place ≤ cond t (initial_place + 2) initial_place + cond u (field_length (hops_in b)) 0
    go true true = omega arith
    go true false = omega arith
    go false true = omega arith
    go false false = omega arith

  -- the fields where their bit stands, and where it does not
  pub initial_on : has_initial b ≡ true → (initial_in b ≡ number_at b initial_place) × (hops_place b ≡ initial_place + 2)
  unfolding initial_in hops_place
  initial_on e = (rw e, rw e)

  pub initial_off : has_initial b ≡ false → (initial_in b ≡ 0) × (hops_place b ≡ initial_place)
  unfolding initial_in hops_place
  initial_off e = (rw e, rw e)

  pub hops_on : has_hops b ≡ true → (hops_in b ≡ number_at b (hops_place b)) × (names_place b ≡ hops_place b + field_length (hops_in b))
  unfolding hops_in names_place
  hops_on e = (rw e, rw e)

  pub hops_off : has_hops b ≡ false → (hops_in b ≡ 0) × (names_place b ≡ hops_place b)
  unfolding hops_in names_place
  hops_off e = (rw e, rw e (omega arith))

  pub names_on : has_names b ≡ true → (names_in b ≡ labels_in b - 1) × (block_place b ≡ names_place b) × (block_length b ≡ lines_place b - names_place b)
  unfolding names_in block_place block_length
  names_on e = (rw e, rw e, rw e)

  pub names_off : has_names b ≡ false → (names_in b ≡ 0) × (block_place b ≡ 0) × (block_length b ≡ 0)
  unfolding names_in block_place block_length
  names_off e = (rw e, rw e, rw e)

  pub lines_on : has_lines b ≡ true → line_bytes_in b ≡ lines_length (hops_in b)
  unfolding line_bytes_in
  lines_on e = rw e

  pub lines_off : has_lines b ≡ false → line_bytes_in b ≡ 0
  unfolding line_bytes_in
  lines_off e = rw e

  -- they are few, for the hops are
  hops_most : Bytes b → hops_in b ≤ most_number
  unfolding hops_in
  hops_most small = go (has_hops b) where
    go : (t : Bool) → cond t (number_at b (hops_place b)) 0 ≤ most_number
    go true = omega (arith, small (hops_place b), small (hops_place b + 1))
    go false = omega arith

  pub line_bytes_most : Bytes b → line_bytes_in b ≤ lines_length most_number
  unfolding line_bytes_in
  line_bytes_most small = go (has_lines b) where
    go : (t : Bool) → cond t (lines_length (hops_in b)) 0 ≤ lines_length most_number
    go true = omega (arith, hops_most small)
    go false = omega arith

  -- where there is a list of lines, it lies before the file's end
  pub lines_lie : needed_length b ≡ length b → {ls : Option ℕ} {n : ℕ} → ls ≡ lines_in b → n ≡ hops_in b → LinesLie b ls n
  unfolding needed_length lines_in
  lines_lie l {ls} {n} e d = rw (e, d) (⊎_elim (λ t. rw t (omega (arith, lines_on t))) (λ f. rw f tt) (decided (has_lines b)))

  -- the hop list is as long as the hop count says
  pub length_hop_list : length (hop_list_in b) ≡ number_place (hops_in b)
  unfolding hop_list_in
  length_hop_list = length_in_field b (hops_place b) (lines_in b) (hops_in b)

  pub count_hop_list : count (hop_list_in b) ≡ hops_in b
  unfolding hop_list_in
  count_hop_list = count_in_field b (hops_place b) (lines_in b) (hops_in b)

  pub names_before_lines : names_place b ≤ lines_place b
  unfolding lines_place
  names_before_lines = omega arith

  pub names_before_end : names_place b ≤ needed_length b
  unfolding needed_length lines_place
  names_before_end = omega arith

  -- the hops lie before the names, and these before the file's end
  pub hops_lie : needed_length b ≡ length b → {p n : ℕ} → p ≡ hops_place b → n ≡ hops_in b → HopsLie b p n
  hops_lie l {p} {n} e d = ⊎_elim on off (decided (has_hops b)) where
    on : has_hops b ≡ true → HopsLie b p n
    on t i m = omega (arith, (hops_on t).1, names_before_end)

    off : has_hops b ≡ false → HopsLie b p n
    off t i m = absurd (omega (arith, (hops_off t).0))

  pub hops_before_names : hops_place b ≤ names_place b
  unfolding names_place
  hops_before_names = omega arith

-- the part of the file that the code lends
pub rest_part : (b : List ℕ) {p : ℕ} → p ≡ names_place b → take (length b - p) (drop p b) ≡ rest_of b
unfolding rest_of
rest_part b {p} e = take_all (length b - p) (drop p b) (rw length-drop (le_refl _)) ∙ ap (λ (n : ℕ). drop n b) e
