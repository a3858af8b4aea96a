-- The bits of byte 0, by the field that each stands for. Assumes nothing: these are definitions.
use Rattle.std.specs.Prelude.{ℕ, Bool, List}
use Rattle.file_fields.specs.declared.Field.{Field}
use Rattle.file_fields.specs.declared.Field.TheVariants.{Initial, Hops, Names, Lines}
use Rattle.file_fields.specs.Format.{has_initial, has_hops, has_names, has_lines}

-- "bit 0 initial state, bit 1 hops, bit 2 names"; "bit 3 stands for a list of lines", as numbers
abbrev pub bit_of : Field → ℕ
bit_of Initial = 1
bit_of Hops = 2
bit_of Names = 4
bit_of Lines = 8

-- whether the bit of a field stands
abbrev pub has_field : List ℕ → Field → Bool
has_field b Initial = has_initial b
has_field b Hops = has_hops b
has_field b Names = has_names b
has_field b Lines = has_lines b
