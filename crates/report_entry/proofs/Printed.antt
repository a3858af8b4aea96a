-- What is printed where a check refuses and where all accept: with outputs of full size row 6 never
-- speaks. Assumes nothing.
use Prim.Native.Nat.{ℕ, ◌+◌, ◌-◌, ◌<◌, ◌≤◌}
use mathlib.Core.Path.{◌≡◌, refl, sym, ap, ◌∙◌}
use mathlib.Core.Bool.{Bool, true, false, cond}
use mathlib.Core.List.{List, []}
use native.Mathlib.Omega.{arith}
use borrow.Author.Tests.{eq-eqb, ne_eqb, eqb-true, le-leb, lt-leb, lt-ltb, le-ltb}
use lib.ListN.{length, drop}
use lib.Seq.{take_at}
use lib.Dec.{eqb}
use Rattle.base_outputs.specs.Output.{on_front}
use Rattle.graph.specs.Hops.{number_place, count, flat, between}
use Rattle.graph.specs.Answers.{most_hops, most_numbers, and_then, capacity_answer, refused}
use Rattle.graph.specs.declared.Shape.{Shape}
use Rattle.graph.specs.declared.Answer.{Answer}
use Rattle.graph.proofs.Accepts.{both_accept}
use Rattle.graph.proofs.Fronts.{flat_front}
use Rattle.graph_check.specs.Check.{check_of, Admitted}
use Rattle.graph_check.proofs.Checked.{check_admitted, admitted_check}
use Rattle.walk_silent.specs.Silent.{ring_answer}
use Rattle.mark_confluence.specs.Rounds.{marked}
use Rattle.mark_confluence.specs.Marks.{marks_of}
use Rattle.mark_confluence.proofs.Marks.{marks_at}
use Rattle.reduce_representatives.specs.Reducible.{Reducible}
use Rattle.reduce_short_graph.specs.Short.{short_hops, map_list}
use Rattle.reduce_short_graph.proofs.Images.{short_within}
use Rattle.reduce_by_marks.specs.Internal.ByMarks.{short_graph}
use Rattle.reduce_by_marks.specs.declared.ShortGraph.{ShortGraph}
use Rattle.reduce_by_marks.proofs.Along.{map_at}
use Rattle.file_fields.specs.Format.{hops_in, shape_in, hop_list_in}
use Rattle.file_fields.proofs.Laws.{length_hop_list, count_hop_list}
use Rattle.file_format.specs.Rows.{format_answer}
use Rattle.file_read.specs.Read.{read_answer, read_of, read_hops, contents_of, refused_contents}
use Rattle.file_read.specs.declared.Contents.{Contents}
use Rattle.report_text.specs.declared.Text.{Text}
use Rattle.report_text.specs.Internal.Text.{TextPut, HasCapacity}
use Rattle.report_rows.specs.Rows.{refusal_of}
use Rattle.report_rows.specs.Internal.Rows.{lent_lines}
use Rattle.report_rows.proofs.Parts.{report_same}
use Rattle.report_entry.specs.Report.{report_of, unless_refused, printed_graph, printed_file, most_input, printed_of, most_text, printed_in}

pub refused_text : (a : Answer) (t : List ℕ) → (a.number ≡ 0 → ⊥) → unless_refused a t ≡ refusal_of a
unfolding unless_refused
refused_text a t n = rw (ne_eqb a.number 0 n)

pub accepted_text : (a : Answer) (t : List ℕ) → a.number ≡ 0 → unless_refused a t ≡ t
unfolding unless_refused
accepted_text a t z = rw (eq-eqb a.number 0 z)

-- two checks one behind the other
then_text : (a b : Answer) (t : List ℕ) → unless_refused (and_then a b) t ≡ unless_refused a (unless_refused b t)
unfolding unless_refused
then_text a b t = go (eqb a.number 0) refl where
  go : (x : Bool) → eqb a.number 0 ≡ x → cond (eqb (cond x b a).number 0) t (refusal_of (cond x b a)) ≡ cond x (cond (eqb b.number 0) t (refusal_of b)) (refusal_of a)
  go true e = refl
  go false e = rw e

-- only what follows an acceptance matters
same_text : (a : Answer) {t u : List ℕ} → (a.number ≡ 0 → t ≡ u) → unless_refused a t ≡ unless_refused a u
unfolding unless_refused
same_text a {t} {u} f = go (eqb a.number 0) refl where
  go : (x : Bool) → eqb a.number 0 ≡ x → cond x t (refusal_of a) ≡ cond x u (refusal_of a)
  go true e = f (eqb-true a.number 0 e)
  go false e = refl

capacity_text : (n r : ℕ) → n ≤ r → (t : List ℕ) → unless_refused (capacity_answer n r) t ≡ t
unfolding unless_refused
capacity_text n r l t = rw (le-leb n r l)

-- a graph that checks 1 to 4 have passed: what is left to ask is row 5
module _ {sh : Shape} {hs : List ℕ} (adm : Admitted sh hs) {a : Answer} (e : a ≡ ring_answer sh hs) where
  past_check : unless_refused (ring_answer sh hs) (report_of sh hs) ≡ printed_graph sh hs
  unfolding printed_graph
  past_check =
      sym (accepted_text (check_of sh hs) (unless_refused (ring_answer sh hs) (report_of sh hs)) (ap (λ (x : Answer). x.number) (admitted_check sh hs adm)))

  pub graph_refused : (a.number ≡ 0 → ⊥) → refusal_of a ≡ printed_graph sh hs
  graph_refused n = ap refusal_of e ∙ sym (refused_text (ring_answer sh hs) (report_of sh hs) (rw e at n)) ∙ past_check

  module _ (z : a.number ≡ 0) where
    pub graph_reducible : Reducible sh hs
    graph_reducible = record { admitted = adm; free = rw e at z }

    pub graph_accepted : report_of sh hs ≡ printed_graph sh hs
    graph_accepted = sym (accepted_text (ring_answer sh hs) (report_of sh hs) (rw e at z)) ∙ past_check

-- what the reduction returns, and leaves in the marks, the map and the short hops
module _ {sh : Shape} {hs : List ℕ} (red : Reducible sh hs) {made : ShortGraph} (d : made ≡ short_graph sh hs (marked hs)) where
  hops_are : made.hops ≡ length (short_hops sh hs (marked hs))
  hops_are = ap (λ (x : ShortGraph). x.hops) d

  pub reduced_most : made.hops ≤ most_hops
  reduced_most = omega (arith, hops_are, short_within sh hs (marked hs), red.admitted.hops_most)

  pub reduced_lines : (ms0 m0 s0 : List ℕ) {ms m s short : List ℕ} →
      ms ≡ on_front (marks_of hs (marked hs)) ms0 → m ≡ on_front (map_list sh hs (marked hs)) m0 → s ≡ on_front (flat (short_hops sh hs (marked hs))) s0 →
      short ≡ between s 0 made.hops → lent_lines sh hs ms m made.shape short ≡ report_of sh hs
  unfolding report_of
  reduced_lines ms0 m0 s0 {ms} e f g p =
      report_same sh hs (λ i l. marks_at hs (marked hs) ms ms0 e l) (map_at sh hs (marked hs) m0 f) (ap (λ (x : ShortGraph). x.shape) d)
      (p ∙ rw g (flat_front (short_hops sh hs (marked hs)) _ hops_are))

-- reading into an output that holds the hops of any graph
module _ (b : List ℕ) where
  hops_fit : (check_of (shape_in b) (hop_list_in b)).number ≡ 0 → count (hop_list_in b) ≤ most_hops
  hops_fit z = (check_admitted (shape_in b) (hop_list_in b) z).hops_most

  read_text : (old t : List ℕ) → most_numbers ≤ length old →
      unless_refused (read_answer b (length old)) t ≡ unless_refused (format_answer b) (unless_refused (check_of (shape_in b) (hop_list_in b)) t)
  unfolding read_answer
  read_text old t l =
      then_text (format_answer b) (and_then (check_of (shape_in b) (hop_list_in b)) (capacity_answer (number_place (hops_in b)) (length old))) t ∙
      same_text (format_answer b)
      (λ y. then_text (check_of (shape_in b) (hop_list_in b)) (capacity_answer (number_place (hops_in b)) (length old)) t ∙
      same_text (check_of (shape_in b) (hop_list_in b)) (λ z. capacity_text (number_place (hops_in b)) (length old) (omega (arith, hops_fit z, count_hop_list b)) t))

  module _ (old : List ℕ) (l : most_numbers ≤ length old) {x : Contents} (e : x ≡ read_of b (length old)) where
    chosen : (t : Bool) → eqb (read_answer b (length old)).number 0 ≡ t → x ≡ cond t (contents_of b) (refused_contents (read_answer b (length old)))
    unfolding read_of
    chosen t d = rw d at e

    refused_answer : (x.answer.number ≡ 0 → ⊥) → x.answer ≡ read_answer b (length old)
    refused_answer n = go (eqb (read_answer b (length old)).number 0) (chosen _ refl) where
      go : (t : Bool) → x ≡ cond t (contents_of b) (refused_contents (read_answer b (length old))) → x.answer ≡ read_answer b (length old)
      go true d = absurd (n (ap (λ (y : Contents). y.answer.number) d))
      go false d = ap (λ (y : Contents). y.answer) d

    pub file_refused : (x.answer.number ≡ 0 → ⊥) → refusal_of x.answer ≡ printed_file b
    unfolding printed_file printed_graph
    file_refused n =
        ap refusal_of q ∙ sym (refused_text (read_answer b (length old)) rest (rw q at n)) ∙ read_text old rest l where
          q : x.answer ≡ read_answer b (length old)
          q = refused_answer n

          rest : List ℕ
          rest = unless_refused (ring_answer (shape_in b) (hop_list_in b)) (report_of (shape_in b) (hop_list_in b))

    module _ (z : x.answer.number ≡ 0) where
      speaks_not : (read_answer b (length old)).number ≡ 0
      speaks_not = go (eqb (read_answer b (length old)).number 0) refl where
        go : (t : Bool) → eqb (read_answer b (length old)).number 0 ≡ t → (read_answer b (length old)).number ≡ 0
        go true d = eqb-true _ 0 d
        go false d = sym (ap (λ (y : Contents). y.answer.number) (chosen false d)) ∙ z

      gives : x ≡ contents_of b
      gives = chosen true (eq-eqb _ 0 speaks_not)

      both : ((format_answer b).number ≡ 0) × ((and_then (check_of (shape_in b) (hop_list_in b)) (capacity_answer (number_place (hops_in b)) (length old))).number ≡ 0)
      unfolding read_answer
      both = both_accept (format_answer b) (and_then (check_of (shape_in b) (hop_list_in b)) (capacity_answer (number_place (hops_in b)) (length old))) speaks_not

      checked : (check_of (shape_in b) (hop_list_in b)).number ≡ 0
      checked = (both_accept (check_of (shape_in b) (hop_list_in b)) _ both.1).0

      pub file_most : x.hops ≤ most_hops
      file_most = omega (arith, ap (λ (y : Contents). y.hops) gives, count_hop_list b, hops_fit checked)

      module _ {after part : List ℕ} (d : after ≡ read_hops b old) (f : part ≡ between after 0 x.hops) where
        shape_read : x.shape ≡ shape_in b
        shape_read = ap (λ (y : Contents). y.shape) gives

        hops_read : part ≡ hop_list_in b
        unfolding read_hops
        hops_read =
            f ∙ rw there
            (take_at (hop_list_in b) (drop (length (hop_list_in b)) old) (number_place x.hops - number_place 0) (omega (arith, length_hop_list b, ap (λ (y : Contents). y.hops) gives))) where
              there : after ≡ on_front (hop_list_in b) old
              there = rw (eq-eqb _ 0 speaks_not) at d

        pub file_admitted : Admitted x.shape part
        file_admitted = rw (shape_read, hops_read) (check_admitted (shape_in b) (hop_list_in b) checked)

        pub file_printed : printed_graph x.shape part ≡ printed_file b
        unfolding printed_file
        file_printed = rw (shape_read, hops_read) (sym (accepted_text (format_answer b) (printed_graph (shape_in b) (hop_list_in b)) both.0))

-- an input that is too long, and one that is not
module _ (b : List ℕ) where
  pub input_refused : most_input < length b → refusal_of (refused 13 most_input) ≡ printed_of b
  unfolding printed_of
  input_refused l = rw (lt-ltb most_input (length b) l)

  pub input_taken : length b ≤ most_input → printed_file b ≡ printed_of b
  unfolding printed_of
  input_taken l = rw (le-ltb most_input (length b) l)

-- a buffer that is too short, and one that is not
module _ (capacity : ℕ) (t : List ℕ) where
  pub printed_none : capacity < most_text → printed_in capacity t ≡ []
  unfolding printed_in
  printed_none l = rw (lt-leb most_text capacity l)

  pub printed_whole : most_text ≤ capacity → printed_in capacity t ≡ t
  unfolding printed_in
  printed_whole l = rw (le-leb most_text capacity l)

-- a text written at the front
module _ {old t new : List ℕ} {r : ℕ} (p : TextPut old 0 t r new) where
  pub front_length : r ≡ length t
  front_length = omega arith

  pub front_stands : new ≡ on_front t old
  front_stands = let e : 0 + length t ≡ length t = omega arith in rw e at p.stands

pub text_capacity : {t : Text} {s : List ℕ} → length s ≤ most_text → t.at + most_text ≤ length t.out.now → HasCapacity t s
text_capacity p q = record { capacity = record { fits = omega arith } }
