-- What it means that the format of a file is accepted: it has just the length that its own numbers
-- ask, no bit stands over what absence means, and no name is bad. Assumes nothing.
use Prim.Native.Nat.{ℕ, ◌<◌, ◌≤◌}
use mathlib.Core.Path.{◌≡◌, refl}
use mathlib.Core.Bool.{Bool, true, false, cond, ◌&&◌}
use mathlib.Core.List.{List}
use native.Mathlib.Omega.{arith}
use borrow.Author.Tests.{ltb-false, leb-false, eqb-false}
use lib.ListN.{length}
use lib.Dec.{eqb, leb, ltb}
use Rattle.graph.specs.declared.Answer.{Answer}
use Rattle.std.proofs.lemmas.Bool.{or_parts}
use Rattle.file_names.specs.Block.{first_bad}
use Rattle.file_lines.specs.LineField.{zero_lines}
use Rattle.file_fields.specs.Format.{bit_map, has_initial, has_hops, has_names, has_lines, labels_in, initial_in, hops_in, names_place, names_in, rest_of, lines_place, needed_length, redundant_bit}
use Rattle.file_fields.proofs.Laws.{names_before_end}
use Rattle.file_format.specs.Rows.{most_bytes, names_answer, format_answer}

-- a check that can only refuse did not speak
pub past : (t : Bool) (r x : Answer) → (r.number ≡ 0 → ⊥) → (cond t r x).number ≡ 0 → (t ≡ false) × (x.number ≡ 0)
past true r x n e = absurd (n e)
past false r x n e = (refl, e)

pub record Sound (b : List ℕ) : Type 0 where
  pub short : length b ≤ most_bytes
  pub low : bit_map b < 16
  pub exact : needed_length b ≡ length b
  pub busy : redundant_bit b ≡ false
  pub clean : names_in b ≤ first_bad (rest_of b) (names_in b)

module _ (b : List ℕ) where
  pub format_sound : (format_answer b).number ≡ 0 → Sound b
  unfolding format_answer names_answer
  format_sound e =
      let (p, e1) = past (ltb most_bytes (length b)) _ _ (λ z. absurd (omega arith)) e in
      let (q, e2) = past (leb 16 (bit_map b)) _ _ (λ z. absurd (omega arith)) e1 in
      let (r, e3) = past (ltb (length b) (needed_length b)) _ _ (λ z. absurd (omega arith)) e2 in
      let (s, e4) = past (ltb (needed_length b) (length b)) _ _ (λ z. absurd (omega arith)) e3 in
      let (t, e5) = past (redundant_bit b) _ _ (λ z. absurd (omega arith)) e4 in
      let (u, e6) = past (ltb (first_bad (rest_of b) (names_in b)) (names_in b)) _ _ (λ z. absurd (omega arith)) e5 in
      record {
        short = ltb-false _ _ p;
        low = leb-false _ _ q;
        exact = omega (arith, ltb-false (length b) (needed_length b) r, ltb-false (needed_length b) (length b) s);
        busy = t;
        clean = ltb-false _ _ u;
      }

  -- the names begin within the file
  pub names_within : Sound b → names_place b ≤ length b
  names_within s = omega (arith, s.exact, names_before_end b)

  -- each bit stands over something
  module _ (s : redundant_bit b ≡ false) where
    bits :
        ((has_initial b && eqb (initial_in b) 0) ≡ false) × ((has_hops b && eqb (hops_in b) 0) ≡ false) × ((has_names b && leb (labels_in b) 1) ≡ false) ×
        ((has_lines b && zero_lines b (lines_place b) (hops_in b)) ≡ false)
    unfolding redundant_bit
    bits =
        let (initial, others) = or_parts _ _ s in
        let (hops, last) = or_parts _ _ others in
        let (names, lines) = or_parts _ _ last in
        (initial, hops, names, lines)

    pub initial_there : has_initial b ≡ true → initial_in b ≡ 0 → ⊥
    initial_there h = eqb-false _ _ (rw h at bits.0)

    pub hops_there : has_hops b ≡ true → hops_in b ≡ 0 → ⊥
    hops_there h = eqb-false _ _ (rw h at bits.1)

    pub names_there : has_names b ≡ true → 1 < labels_in b
    names_there h = leb-false _ _ (rw h at bits.2)

    pub lines_there : has_lines b ≡ true → zero_lines b (lines_place b) (hops_in b) ≡ false
    lines_there h = rw h at bits.3
