-- "P1 as a file is 31 bytes, map byte 2": the definitions give these bytes, and read them back.
-- With two source lines it has 8 bytes more and bit 3. Assumes nothing.
use Prim.Native.Nat.{ℕ}
use mathlib.Core.Path.{◌≡◌, refl}
use mathlib.Core.List.{List, [], ◌∷◌}
use lib.ListN.{length}
use Rattle.base_bounded.specs.Quantifiers.{all, any, least}
use Rattle.graph.specs.Hops.{flat}
use Rattle.graph.specs.Order.{before}
use Rattle.graph.specs.Answers.{accepted, refused}
use Rattle.graph_check.specs.Check.{counts_fit, inside, first_outside, ascends_at, first_not_ascending, check_of}
use Rattle.graph.specs.declared.Shape.{Shape}
use Rattle.file_names.specs.Block.{name_at, repeated, length_fits, bad, first_bad}
use Rattle.file_name_order.specs.Pair.{same_byte, same_name}
use Rattle.file_fields.specs.Format.{has_initial, has_hops, has_names, has_lines, initial_in, hops_place, hops_in, names_place, names_in, rest_of, lines_place, line_bytes_in, lines_in, needed_length, shape_in, hop_list_in}
use Rattle.file_fields.specs.Format.{redundant_bit}
use Rattle.file_lines.specs.LineField.{line_in, zero_lines, any_line, line_list}
use Rattle.file_hops.specs.Field.{hop_from, hops_by, hops_in_field, hop_bytes, field_bytes}
use Rattle.file_format.specs.Rows.{names_answer, format_answer}
use Rattle.file_read.specs.Read.{read_answer}
use Rattle.file_encode.specs.Encode.{bits_of, initial_bytes, hops_bytes, lines_bytes, head_bytes, encode}
use Rattle.base_outputs.specs.Concat.{concat}

abbrev shape : Shape
shape = record { states = 4; labels = 2; initial = 0 }

abbrev hops : List ℕ
hops = 0 ∷ 0 ∷ 1 ∷ 0 ∷ 0 ∷ 1 ∷ 2 ∷ 0 ∷ 1 ∷ 1 ∷ 3 ∷ 0 ∷ 2 ∷ 0 ∷ 3 ∷ 0 ∷ []

abbrev bytes : List ℕ
bytes =
    2 ∷ 4 ∷ 0 ∷ 2 ∷ 0 ∷ 4 ∷ 0 ∷ 0 ∷ 0 ∷ 0 ∷ 0 ∷ 1 ∷ 0 ∷ 0 ∷ 0 ∷ 1 ∷ 0 ∷ 2 ∷ 0 ∷ 1 ∷ 0 ∷ 1 ∷ 0 ∷ 3 ∷ 0 ∷ 2 ∷ 0 ∷ 0 ∷ 0 ∷ 3 ∷ 0 ∷ []

pub p1_bytes : (encode shape hops [] ≡ bytes) × (length bytes ≡ 31)
unfolding encode head_bytes bits_of initial_bytes hops_bytes lines_bytes any_line any field_bytes hop_bytes concat
p1_bytes = (refl, refl)

pub p1_read : (read_answer bytes 16 ≡ accepted) × (hop_list_in bytes ≡ hops) × (read_answer bytes 15 ≡ refused 6 0) × (read_answer [] 0 ≡ refused 11 0)
unfolding read_answer format_answer names_answer redundant_bit needed_length lines_place line_bytes_in lines_in line_in zero_lines rest_of names_in names_place hops_in hops_place initial_in has_initial has_hops has_names has_lines shape_in hop_list_in name_at first_bad bad length_fits repeated same_name same_byte check_of counts_fit first_outside inside first_not_ascending ascends_at before hops_in_field hops_by hop_from flat least all any
p1_read = (refl, refl, refl, refl)

-- the second hop of line 5 and the last of line 300
abbrev lined_hops : List ℕ
lined_hops = 0 ∷ 0 ∷ 1 ∷ 0 ∷ 0 ∷ 1 ∷ 2 ∷ 5 ∷ 1 ∷ 1 ∷ 3 ∷ 0 ∷ 2 ∷ 0 ∷ 3 ∷ 300 ∷ []

abbrev lined_bytes : List ℕ
lined_bytes =
    10 ∷ 4 ∷ 0 ∷ 2 ∷ 0 ∷ 4 ∷ 0 ∷ 0 ∷ 0 ∷ 0 ∷ 0 ∷ 1 ∷ 0 ∷ 0 ∷ 0 ∷ 1 ∷ 0 ∷ 2 ∷ 0 ∷ 1 ∷ 0 ∷ 1 ∷ 0 ∷ 3 ∷ 0 ∷ 2 ∷ 0 ∷ 0 ∷ 0 ∷ 3 ∷ 0 ∷
    0 ∷ 0 ∷ 5 ∷ 0 ∷ 0 ∷ 0 ∷ 44 ∷ 1 ∷ []

pub lined_bytes_lem : (encode shape lined_hops [] ≡ lined_bytes) × (length lined_bytes ≡ 39)
unfolding encode head_bytes bits_of initial_bytes hops_bytes lines_bytes line_list any_line any field_bytes hop_bytes concat
lined_bytes_lem = (refl, refl)

pub lined_read : (read_answer lined_bytes 16 ≡ accepted) × (hop_list_in lined_bytes ≡ lined_hops)
unfolding read_answer format_answer names_answer redundant_bit needed_length lines_place line_bytes_in lines_in line_in zero_lines rest_of names_in names_place hops_in hops_place initial_in has_initial has_hops has_names has_lines shape_in hop_list_in name_at first_bad bad length_fits repeated same_name same_byte check_of counts_fit first_outside inside first_not_ascending ascends_at before hops_in_field hops_by hop_from flat least all any
lined_read = (refl, refl)
