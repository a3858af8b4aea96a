-- The longest legal file has 66,536 bytes and no fewer: 1,024 states and labels, initial state 1,
-- hops i / 4, i % 4, 0 of line i + 1 for i below 4,096, and for each label from 1 upward a name of
-- 32 bytes that begins with the label's number less 1. Assumes nothing.
use Prim.Native.Nat.{ℕ, zero, suc, ◌+◌, ◌*◌, ◌/◌, ◌%◌, ◌<◌, ◌≤◌}
use mathlib.Core.Path.{◌≡◌, refl, sym, ap, ◌∙◌}
use mathlib.Core.Bool.{true, false, cond}
use mathlib.Core.List.{List}
use mathlib.Core.Logic.{⊎_elim}
use native.Mathlib.Nat.{le_refl}
use native.Mathlib.Omega.{arith}
use borrow.Author.Tests.{eq-eqb, ne_eqb, eqb-true, lt-ltb}
use lib.ListN.{length, get_or}
use lib.Dec.{eqb, ltb}
use Rattle.base_bounded.specs.Quantifiers.{tabulate}
use Rattle.graph.specs.Hops.{number_place, count, from, label, to, line_at, lined_hop, hop_at, flat}
use Rattle.graph.specs.Order.{before, Ascending}
use Rattle.graph.specs.Answers.{most_states, most_labels, most_hops, accepted}
use Rattle.graph.specs.declared.Hop.{Hop}
use Rattle.graph_check.specs.Check.{Admitted}
use Rattle.graph.specs.declared.Shape.{Shape}
use Rattle.base_bounded.proofs.Bools.{not_no, and_right, or_right, lt_or_le, no_test}
use Rattle.base_bounded.proofs.Quantifiers.{length_tabulate, get_d_tabulate, all_at, any_no, any_found, least_no}
use Rattle.file_lines.specs.LineField.{any_line}
use Rattle.file_lines.proofs.Laws.{lined}
use Rattle.file_hops.specs.Field.{hops_by}
use Rattle.file_hops.proofs.Lists.{length_flat_by, flat_by_at}
use Rattle.graph_check.proofs.Checked.{admitted_check}
use Rattle.file_names.specs.Block.{longest_name, most_name_bytes, name_at, repeated, length_fits, bad, first_bad}
use Rattle.file_name_order.specs.Pair.{same_byte, same_name}
use Rattle.file_encode.specs.Encode.{encode}
use Rattle.file_format.specs.Rows.{most_names, most_bytes}
use Rattle.file_write.specs.Write.{block_answer, names_given, given_answer}
use Rattle.file_write.proofs.Given.{block_good}
use Rattle.file_round_trip.proofs.Back.{longest_at_limits}

full_hop : ℕ → Hop
full_hop i = lined_hop (i / 4) (i % 4) 0 (i + 1)

pub full_hops : List ℕ
full_hops = flat (hops_by most_hops full_hop)

pub full_shape : Shape
full_shape = record { states = most_states; labels = most_labels; initial = 1 }

hops_long : length full_hops ≡ number_place most_hops
unfolding full_hops
hops_long = length_flat_by full_hop most_hops

module _ (i : ℕ) (l : i < most_hops) where
  hop_full : hop_at full_hops i ≡ lined_hop (i / 4) (i % 4) 0 (i + 1)
  unfolding full_hops full_hop
  hop_full = flat_by_at full_hop most_hops l

  from_full : from full_hops i ≡ i / 4
  from_full = ap (λ (h : Hop). h.from) hop_full

  label_full : label full_hops i ≡ i % 4
  label_full = ap (λ (h : Hop). h.label) hop_full

  to_full : to full_hops i ≡ 0
  to_full = ap (λ (h : Hop). h.to) hop_full

  line_full : line_at full_hops i ≡ i + 1
  line_full = ap (λ (h : Hop). h.line) hop_full

full_ascends : Ascending full_hops
unfolding Ascending before
full_ascends i l =
    rw (from_full i inner, from_full (i + 1) next, label_full i inner, label_full (i + 1) next)
    (⊎_elim (λ m. or_right (ltb (i / 4) ((i + 1) / 4)) (rw (eq-eqb (i / 4) ((i + 1) / 4) (omega arith), lt-ltb (i % 4) ((i + 1) % 4) (omega arith))))
    (λ m. rw (lt-ltb (i / 4) ((i + 1) / 4) (omega arith))) (lt_or_le (i % 4) 3)) where
      next : i + 1 < most_hops
      next = omega (arith, hops_long)

      inner : i < most_hops
      inner = omega (arith, next)

full_admitted : Admitted full_shape full_hops
unfolding full_shape
full_admitted = record {
  states_some = omega arith;
  states_most = omega arith;
  labels_some = omega arith;
  labels_most = omega arith;
  hops_most = omega (arith, hops_long);
  whole_hops = omega (arith, hops_long);
  initial_in = omega arith;
  range = record {
    from_in = λ i l. omega (arith, hops_long, from_full i (omega (arith, hops_long)));
    label_in = λ i l. omega (arith, hops_long, label_full i (omega (arith, hops_long)));
    to_in = λ i l. omega (arith, hops_long, to_full i (omega (arith, hops_long)));
  };
  ascending = full_ascends;
}

name_byte : ℕ → ℕ
name_byte j = cond (eqb (j % most_name_bytes) 0) longest_name (cond (eqb (j % most_name_bytes) 1) (j / most_name_bytes % 256) (cond (eqb (j % most_name_bytes) 2) (j / most_name_bytes / 256) 0))

pub full_names : List ℕ
full_names = tabulate (most_name_bytes * most_names) name_byte

names_long : length full_names ≡ most_name_bytes * most_names
unfolding full_names
names_long = length_tabulate name_byte (most_name_bytes * most_names)

name_byte_lem : (j : ℕ) → j < most_name_bytes * most_names → get_or full_names j 0 ≡ name_byte j
unfolding full_names
name_byte_lem j l = get_d_tabulate name_byte (most_name_bytes * most_names) l

module _ (k : ℕ) (l : k < most_names) where
  size_full : get_or full_names (most_name_bytes * k) 0 ≡ longest_name
  unfolding name_byte
  size_full = name_byte_lem (most_name_bytes * k) (omega arith) ∙ rw (eq-eqb (most_name_bytes * k % most_name_bytes) 0 (omega arith))

  low_full : get_or full_names (most_name_bytes * k + 1 + 0) 0 ≡ k % 256
  unfolding name_byte
  low_full =
      name_byte_lem (most_name_bytes * k + 1 + 0) (omega arith) ∙ rw (ne_eqb ((most_name_bytes * k + 1 + 0) % most_name_bytes) 0 (λ z. omega arith), eq-eqb ((most_name_bytes * k + 1 + 0) % most_name_bytes) 1 (omega arith)) (omega arith)

  high_full : get_or full_names (most_name_bytes * k + 1 + 1) 0 ≡ k / 256
  unfolding name_byte
  high_full =
      name_byte_lem (most_name_bytes * k + 1 + 1) (omega arith) ∙
      rw (ne_eqb ((most_name_bytes * k + 1 + 1) % most_name_bytes) 0 (λ z. omega arith), ne_eqb ((most_name_bytes * k + 1 + 1) % most_name_bytes) 1 (λ z. omega arith), eq-eqb ((most_name_bytes * k + 1 + 1) % most_name_bytes) 2 (omega arith)) (omega arith)

name_full : (k : ℕ) → k ≤ most_names → name_at full_names k ≡ most_name_bytes * k
unfolding name_at
name_full zero l = omega arith
name_full (suc k) l = rw (name_full k (omega arith), size_full k (omega arith)) (omega arith)

-- two names differ in the first byte or in the second
differ : (j k : ℕ) → j < k → k < most_names → same_name full_names (most_name_bytes * k) (most_name_bytes * j) ≡ true → ⊥
unfolding same_name same_byte
differ j k l m e =
    let a = rw (size_full k m) at (and_right (eqb (get_or full_names (most_name_bytes * k) 0) (get_or full_names (most_name_bytes * j) 0)) _ e) in
    let p : get_or full_names (most_name_bytes * k + 1 + 0) 0 ≡ get_or full_names (most_name_bytes * j + 1 + 0) 0 = eqb-true _ _ (all_at (same_byte full_names (most_name_bytes * k) (most_name_bytes * j)) longest_name {i = 0} a (omega arith)) in
    let q : get_or full_names (most_name_bytes * k + 1 + 1) 0 ≡ get_or full_names (most_name_bytes * j + 1 + 1) 0 = eqb-true _ _ (all_at (same_byte full_names (most_name_bytes * k) (most_name_bytes * j)) longest_name {i = 1} a (omega arith)) in
    omega (arith, low_full k m, high_full k m, low_full j (omega arith), high_full j (omega arith))

names_differ : (j k : ℕ) → j < k → k < most_names → same_name full_names (name_at full_names k) (name_at full_names j) ≡ false
names_differ j k l m =
    rw (name_full k (omega arith), name_full j (omega arith)) (no_test (same_name full_names (most_name_bytes * k) (most_name_bytes * j)) (differ j k l m))

names_clean : (k : ℕ) → k < most_names → bad full_names k ≡ false
unfolding bad repeated length_fits
names_clean k l =
    rw (name_full k (omega arith), size_full k l) (any_no _ k (λ j m. ap (λ (p : ℕ). same_name full_names p (name_at full_names j)) (sym (name_full k (omega arith))) ∙ names_differ j k m l))

no_bad : first_bad full_names most_names ≡ most_names
unfolding first_bad
no_bad = least_no (bad full_names) most_names names_clean

names_accepted : block_answer full_names most_names ≡ accepted
names_accepted =
    sym (block_good full_names most_names refl (omega (arith, ends, names_long)) (omega (arith, ends, names_long)) refl (rw no_bad (le_refl _))) where
      ends : name_at full_names most_names ≡ most_name_bytes * most_names
      ends = name_full most_names (omega arith)

pub full_accepted : given_answer full_shape full_hops full_names ≡ accepted
unfolding given_answer names_given full_shape
full_accepted =
    rw (admitted_check full_shape full_hops full_admitted, ne_eqb (length full_names) 0 (λ z. omega (arith, names_long))) names_accepted

full_lined : any_line full_hops ≡ true
unfolding any_line
full_lined = any_found (lined full_hops) (count full_hops) {i = 0} (omega (arith, hops_long)) (not_no (ne_eqb (line_at full_hops 0) 0 (λ z. omega (arith, line_full 0 (omega arith)))))

pub full_longest : length (encode full_shape full_hops full_names) ≡ most_bytes
unfolding full_shape
full_longest = longest_at_limits full_shape full_hops full_names (λ z. some z) hops_long full_lined names_long where
  some : full_shape.initial ≡ 0 → ⊥
  some z = omega arith
