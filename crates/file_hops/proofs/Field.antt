-- Laws of the hop field: how long it is, that the hops of a field that was written are those of the
-- list, and that a field that was read is written with the same bytes. Assumes nothing.
use Prim.Native.Nat.{ℕ, suc, ◌+◌, ◌*◌, ◌%◌, ◌<◌, ◌≤◌}
use mathlib.Core.Path.{◌≡◌, refl, sym, ap, ◌∙◌}
use mathlib.Core.Bool.{false}
use mathlib.Core.List.{List, ◌++◌}
use native.Mathlib.Omega.{arith}
use lib.ListN.{length, drop}
use lib.Seq.{drop-drop}
use Rattle.graph.specs.Hops.{numbers_a_hop, number_place, count, line_at, lined_hop, hop_at}
use Rattle.graph.specs.declared.Hop.{Hop}
use Rattle.base_outputs.specs.Internal.Output.{over_at}
use Rattle.base_outputs.proofs.Front.{over_then}
use Rattle.file_numbers.specs.Numbers.{number_at, number, Bytes}
use Rattle.file_lines.specs.LineField.{line_in, any_line}
use Rattle.std.specs.Prelude.{Option, Some, None}
use Rattle.file_hops.specs.Field.{bytes_a_hop, field_length, hop_place, hop_from, hop_in, hops_in_field, hop_bytes, each_hop, field_bytes}
use Rattle.file_numbers.proofs.TwoBytes.{number_whole, number_drop, number_again}
use Rattle.file_numbers.proofs.Parts.{concat_again, length_concat, concat_at, concat_none, concat_more, concat_done}
use Rattle.file_lines.proofs.Laws.{none_lined, LinesStand}
use Rattle.file_hops.proofs.Lists.{length_flat_by, count_flat_by, flat_by_at, flat_by}
use Rattle.base_outputs.specs.Concat.{concat}

-- the hops of a field, and their lines
module _ (b : List ℕ) (at : ℕ) (ls : Option ℕ) (n : ℕ) where
  pub length_in_field : length (hops_in_field b at ls n) ≡ number_place n
  unfolding hops_in_field
  length_in_field = length_flat_by (hop_in b at ls) n

  pub count_in_field : count (hops_in_field b at ls n) ≡ n
  unfolding hops_in_field
  count_in_field = count_flat_by (hop_in b at ls) n

  hop_in_field : {i : ℕ} → i < count (hops_in_field b at ls n) → hop_at (hops_in_field b at ls n) i ≡ hop_in b at ls i
  unfolding hops_in_field
  hop_in_field l = flat_by_at (hop_in b at ls) n (omega (arith, count_in_field))

  pub lines_in_field : (place : ℕ) → ls ≡ Some place → LinesStand b place (hops_in_field b at ls n)
  unfolding line_in hop_from
  lines_in_field place e i l = sym (ap (λ (h : Hop). h.line) (hop_in_field l) ∙ rw e)

  -- without a list of lines no hop has one
  pub no_lines_in_field : ls ≡ None → any_line (hops_in_field b at ls n) ≡ false
  unfolding line_in hop_from
  no_lines_in_field e = none_lined (hops_in_field b at ls n) (λ i l. ap (λ (h : Hop). h.line) (hop_in_field l) ∙ rw e)

-- the bytes of the hop at a place
abbrev pub hop_bytes_at : List ℕ → ℕ → List ℕ
hop_bytes_at hs i = hop_bytes (hop_at hs i)

wide : (hs : List ℕ) (i : ℕ) → length (hop_bytes_at hs i) ≡ bytes_a_hop
unfolding hop_bytes
wide hs i = refl

pub length_field : (hs : List ℕ) → length (field_bytes hs) ≡ field_length (count hs)
unfolding field_bytes
length_field hs = omega (arith, length_concat (hop_bytes_at hs) bytes_a_hop (wide hs) (count hs))

-- a hop as it is put: number after number
pub hop_put : (at : ℕ) (old : List ℕ) (h : Hop) {one two three : List ℕ} → at + bytes_a_hop ≤ length old → one ≡ over_at at (number h.from) old →
    two ≡ over_at (at + 2) (number h.label) one → three ≡ over_at (at + 4) (number h.to) two → three ≡ over_at at (hop_bytes h) old
unfolding hop_bytes
hop_put at old h l p q r =
    r ∙ ap (over_at (at + 4) (number h.to))
    (q ∙ ap (over_at (at + 2) (number h.label)) p ∙ over_then at (number h.from) (number h.label) old {k = at + 2} refl (omega arith)) ∙
    over_then at (number h.from ++ number h.label) (number h.to) old {k = at + 4} refl (omega arith)

-- the hops of a list as they are put, one after the other
module _ (at : ℕ) (old hs : List ℕ) where
  pub hops_none : old ≡ over_at at (concat 0 (hop_bytes_at hs)) old
  hops_none = concat_none (hop_bytes_at hs) bytes_a_hop (wide hs) at old

  pub hops_more : {out out' : List ℕ} {i : ℕ} {h : Hop} → out ≡ over_at at (concat i (hop_bytes_at hs)) old → h ≡ hop_at hs i → out' ≡ over_at (at + bytes_a_hop * i) (hop_bytes h) out →
      i < count hs → at + bytes_a_hop * count hs ≤ length old → out' ≡ over_at at (concat (i + 1) (hop_bytes_at hs)) old
  hops_more e d f l r = concat_more (hop_bytes_at hs) bytes_a_hop (wide hs) at old e (ap hop_bytes d) f l r

  pub hops_done : {out : List ℕ} {i n : ℕ} → out ≡ over_at at (concat i (hop_bytes_at hs)) old → n ≡ count hs → i ≤ n → n ≤ i → out ≡ over_at at (each_hop hs) old
  hops_done e d l m = concat_done (hop_bytes_at hs) bytes_a_hop (wide hs) at old e (omega arith) (omega arith)

  -- the field: its count, then its hops
  pub field_put : {out out' : List ℕ} {n : ℕ} → n ≡ count hs → out ≡ over_at at (number n) old → out' ≡ over_at (at + 2) (each_hop hs) out →
      at + 2 ≤ length old → out' ≡ over_at at (field_bytes hs) old
  unfolding field_bytes
  field_put e d f l =
      f ∙ ap (over_at (at + 2) (each_hop hs)) (d ∙ ap (λ (n : ℕ). over_at at (number n) old) e) ∙
      over_then at (number (count hs)) (each_hop hs) old {k = at + 2} refl l

-- a hop that was written
hop_read : (h : Hop) (rest : List ℕ) → hop_from (hop_bytes h ++ rest) 0 h.line ≡ h
unfolding hop_from hop_bytes
hop_read h rest = λ d. lined_hop (number_whole h.from d) (number_whole h.label d) (number_whole h.to d) h.line

-- a hop from the middle
from_drop : (b : List ℕ) (p l : ℕ) → hop_from b p l ≡ hop_from (drop p b) 0 l
unfolding hop_from
from_drop b p l = λ d. lined_hop ((ap (number_at b) none ∙ number_drop b p 0) d) (number_drop b p 2 d) (number_drop b p 4 d) l where
  none : p ≡ p + 0
  none = omega arith

-- "A graph written and read again is the same graph": the field that stands at a place is read as
-- the list that it was written from, if the lines are
module _ (b hs rest : List ℕ) (at : ℕ) (e : drop at b ≡ field_bytes hs ++ rest) where
  pub count_back : number_at b at ≡ count hs
  unfolding field_bytes
  count_back = ap (number_at b) none ∙ number_drop b at 0 ∙ rw e (omega arith) where
    none : at ≡ at + 0
    none = omega arith

  hops_from : drop (at + 2) b ≡ each_hop hs ++ rest
  unfolding field_bytes
  hops_from = sym (drop-drop 2 at b) ∙ rw e

  module _ (ls : Option ℕ) (lines : (i : ℕ) → i < count hs → line_in b ls i ≡ line_at hs i) where
    hop_back : (i : ℕ) → i < count hs → hop_in b at ls i ≡ hop_at hs i
    hop_back i l =
        let (t, d) = concat_at (hop_bytes_at hs) bytes_a_hop (wide hs) (count hs) rest l in
        ap (hop_from b (hop_place at i)) (lines i l) ∙ from_drop b (hop_place at i) (line_at hs i) ∙
        ap (λ (m : List ℕ). hop_from m 0 (line_at hs i)) (sym (drop-drop (bytes_a_hop * i) (at + 2) b) ∙ ap (drop (bytes_a_hop * i)) hops_from ∙ d) ∙ hop_read (hop_at hs i) t

    pub field_back : length hs % numbers_a_hop ≡ 0 → hops_in_field b at ls (count hs) ≡ hs
    unfolding hops_in_field
    field_back w = flat_by (hop_in b at ls) hs w hop_back

-- "A file read and written again has the same bytes": the field is written as it stands
module _ (b : List ℕ) (small : Bytes b) where
  hop_again : (p l : ℕ) → p + bytes_a_hop ≤ length b → drop p b ≡ hop_bytes (hop_from b p l) ++ drop (p + bytes_a_hop) b
  unfolding hop_bytes hop_from
  hop_again p l m =
      number_again b small p (omega arith) ∙ ap (number (number_at b p) ++◌)
      (number_again b small (p + 2) (omega arith) ∙ ap (number (number_at b (p + 2)) ++◌)
      (rw four (number_again b small (p + 4) (omega arith)) ∙ ap (λ (k : ℕ). number (number_at b (p + 4)) ++ drop k b) six)) where
        four : p + 2 + 2 ≡ p + 4
        four = omega arith

        six : p + 4 + 2 ≡ p + bytes_a_hop
        six = omega arith

  pub field_again : (at : ℕ) (ls : Option ℕ) {n : ℕ} → n ≡ number_at b at → at + field_length n ≤ length b → drop at b ≡ field_bytes (hops_in_field b at ls n) ++ drop (at + field_length n) b
  unfolding field_bytes
  field_again at ls {n} e l =
      number_again b small at (omega arith) ∙ ap (λ (k : ℕ). number k ++ drop (at + 2) b) (sym e ∙ sym counted) ∙
      ap (number (count hs) ++◌) (concat_again (hop_bytes_at hs) bytes_a_hop b (at + 2) (count hs) each ∙ ap (λ (k : ℕ). each_hop hs ++ drop k b) end) where
        hs : List ℕ
        hs = hops_in_field b at ls n

        counted : count hs ≡ n
        counted = count_in_field b at ls n

        end : hop_place at (count hs) ≡ at + field_length n
        end = omega (arith, counted)

        each : (i : ℕ) → i < count hs → drop (hop_place at i) b ≡ hop_bytes_at hs i ++ drop (hop_place at (suc i)) b
        each i k =
            hop_again (hop_place at i) (line_in b ls i) (omega (arith, counted)) ∙
            ap (λ (h : Hop). hop_bytes h ++ drop (hop_place at i + bytes_a_hop) b) (sym (hop_in_field b at ls n k)) ∙ ap (λ (m : ℕ). hop_bytes_at hs i ++ drop m b) next where
              next : hop_place at i + bytes_a_hop ≡ hop_place at (suc i)
              next = omega arith
