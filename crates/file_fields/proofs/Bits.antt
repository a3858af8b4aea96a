-- The bit of a field in byte 0: the test of the code is that of the definitions. Assumes nothing.
use Prim.Native.Nat.{ℕ, ◌*◌, ◌/◌, ◌%◌, ◌<◌}
use mathlib.Core.Path.{◌≡◌}
use mathlib.Core.Bool.{not}
use mathlib.Core.List.{List}
use mathlib.Core.Logic.{⊎_elim}
use native.Mathlib.Omega.{arith}
use borrow.Author.Tests.{eq-eqb, ne_eqb}
use lib.ListN.{get_or}
use lib.Dec.{eqb}
use Rattle.std.specs.Prelude.{bit_and}
use Rattle.std.proofs.lemmas.Nat.Bits.{and_pow}
use Rattle.base_bounded.proofs.Bools.{eq_or_not}
use Rattle.file_fields.specs.declared.Field.{Field}
use Rattle.file_fields.specs.declared.Field.TheVariants.{Initial, Hops, Names, Lines}
use Rattle.file_fields.specs.Format.{has_initial, has_hops, has_names, has_lines}
use Rattle.file_fields.specs.Internal.Field.{bit_of, has_field}

-- a number that is 0 exactly where a bit is
tested : (x r p : ℕ) → x ≡ r * p → r < 2 → 0 < p → not (eqb x 0) ≡ eqb r 1
tested x r p e l m =
    ⊎_elim (λ z. let f = rw z at e in let n : x ≡ 0 = omega arith in rw (eq-eqb x 0 n, ne_eqb r 1 (λ o. omega arith)))
    (λ z. let o : r ≡ 1 = omega arith in rw (ne_eqb x 0 (λ n. let f = rw o at e in omega arith), eq-eqb r 1 o)) (eq_or_not r 0)

pub has_bit : (b : List ℕ) (f : Field) → not (eqb (bit_and (get_or b 0 0) (bit_of f)) 0) ≡ has_field b f
unfolding has_initial has_hops has_names has_lines
has_bit b Initial = tested _ (get_or b 0 0 % 2) 1 (omega (arith, and_pow (get_or b 0 0) 0)) (omega arith) (omega arith)
has_bit b Hops = tested _ (get_or b 0 0 / 2 % 2) 2 (and_pow (get_or b 0 0) 1) (omega arith) (omega arith)
has_bit b Names = tested _ (get_or b 0 0 / 4 % 2) 4 (and_pow (get_or b 0 0) 2) (omega arith) (omega arith)
has_bit b Lines = tested _ (get_or b 0 0 / 8 % 2) 8 (and_pow (get_or b 0 0) 3) (omega arith) (omega arith)
