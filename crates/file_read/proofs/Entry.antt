-- The ways out of the entry `read`: the format is checked, then the graph, then the output's
-- length; where none refuses, all that the file holds is returned. Assumes nothing.
use Prim.Native.Nat.{ℕ, ◌<◌, ◌≤◌}
use mathlib.Core.Path.{◌≡◌, refl, sym, ap, ◌∙◌}
use mathlib.Core.Bool.{false, ◌&&◌}
use mathlib.Core.List.{List}
use mathlib.Core.Logic.{⊎_elim}
use native.Mathlib.Omega.{arith}
use borrow.Author.Tests.{lt-leb, le-leb, eq-eqb, ne_eqb}
use lib.ListN.{length, take, drop}
use lib.Seq.{take_at}
use lib.Dec.{leb}
use Rattle.graph.specs.Hops.{count, whole, number_place}
use Rattle.graph.specs.Answers.{most_states, most_labels, most_hops, accepted, refused, and_then, capacity_answer}
use Rattle.graph_check.specs.Check.{counts_fit, check_of}
use Rattle.graph.specs.declared.Shape.{Shape}
use Rattle.graph.specs.declared.Answer.{Answer}
use Rattle.base_bounded.proofs.Bools.{and_no_left, and_no_right, not_no, eq_or_not}
use Rattle.graph_check.proofs.Checked.{check_counts, check_admitted}
use Rattle.graph.proofs.Accepts.{both_accept, second_accepts, capacity_accepts}
use Rattle.std.specs.Prelude.{Option}
use Rattle.file_hops.specs.Field.{hops_in_field}
use Rattle.file_fields.specs.Format.{hops_place, hops_in, lines_in, shape_in, hop_list_in}
use Rattle.file_fields.proofs.Laws.{length_hop_list, count_hop_list}
use Rattle.file_format.specs.Rows.{format_answer}
use Rattle.file_format.proofs.Sound.{Sound, format_sound}
use Rattle.file_format.proofs.Cut.{front_refused}
use Rattle.base_outputs.specs.Output.{on_front}
use Rattle.file_read.specs.Read.{read_answer, read_of, read_hops, refused_contents, contents_of}

-- a graph with too many hops is refused whatever they are
unfit : (sh : Shape) (hs : List ℕ) → most_hops < count hs → counts_fit sh hs ≡ false
unfolding counts_fit
unfit sh hs l =
    and_no_left (whole hs)
    (and_no_right (leb 1 sh.states && leb sh.states most_states && leb 1 sh.labels && leb sh.labels most_labels) (lt-leb _ _ l))

module _ (b : List ℕ) where
  -- the graph's answer, without and with a copy of the hops
  pub graph_many : {n : ℕ} → n ≡ hops_in b → most_hops < n → refused 1 0 ≡ check_of (shape_in b) (hop_list_in b)
  graph_many e l = check_counts (shape_in b) (hop_list_in b) refl (not_no (unfit (shape_in b) (hop_list_in b) (omega (arith, count_hop_list b))))

  pub graph_few : {g : Answer} → g ≡ check_of (shape_in b) (hop_list_in b) → g.number ≡ 0 → hops_in b ≤ most_hops
  graph_few e z = rw (← count_hop_list b) (check_admitted (shape_in b) (hop_list_in b) (ap (λ (x : Answer). x.number) (sym e) ∙ z)).hops_most

  -- a list with the hops in front, and its part that has just them
  pub hops_part : (copy old : List ℕ) {n : ℕ} → copy ≡ on_front (hop_list_in b) old → n ≡ number_place (hops_in b) → take n copy ≡ hop_list_in b
  hops_part copy old {n} h d = rw h (take_at (hop_list_in b) (drop (length (hop_list_in b)) old) n (omega (arith, length_hop_list b)))

  -- the hops as they were taken from the field
  module _ {p n : ℕ} {ls : Option ℕ} (e : p ≡ hops_place b) (q : ls ≡ lines_in b) (d : n ≡ hops_in b) (copy old : List ℕ) (h : copy ≡ on_front (hops_in_field b p ls n) old) where
    pub hops_taken : copy ≡ on_front (hop_list_in b) old
    unfolding hop_list_in
    hops_taken = h ∙ rw (e, q, d)

    pub graph_copied : {sh : Shape} {m : ℕ} → sh ≡ shape_in b → m ≡ number_place n → check_of sh (take m copy) ≡ check_of (shape_in b) (hop_list_in b)
    graph_copied s k = rw s (ap (check_of (shape_in b)) (hops_part copy old hops_taken (k ∙ ap number_place d)))

  module _ (capacity : ℕ) {a : Answer} (f : a ≡ format_answer b) where
    pub format_speaks : (a.number ≡ 0 → ⊥) → a ≡ read_answer b capacity
    unfolding read_answer
    format_speaks n = rw (← f, ne_eqb _ _ n)

    module _ (z : a.number ≡ 0) {g : Answer} (e : g ≡ check_of (shape_in b) (hop_list_in b)) where
      pub graph_speaks : (g.number ≡ 0 → ⊥) → g ≡ read_answer b capacity
      unfolding read_answer
      graph_speaks n = rw (← f, eq-eqb _ _ z, ← e, ne_eqb _ _ n)

      module _ (y : g.number ≡ 0) {n : ℕ} (d : n ≡ number_place (hops_in b)) where
        pub capacity_speaks : capacity < n → refused 6 0 ≡ read_answer b capacity
        unfolding read_answer
        capacity_speaks l = rw (← f, eq-eqb _ _ z, ← e, eq-eqb _ _ y, ← d, lt-leb _ _ l)

        pub none_speaks : n ≤ capacity → accepted ≡ read_answer b capacity
        unfolding read_answer
        none_speaks l = rw (← f, eq-eqb _ _ z, ← e, eq-eqb _ _ y, ← d, le-leb _ _ l)

  -- what acceptance says
  pub read_accepts : (capacity : ℕ) → (read_answer b capacity).number ≡ 0 → (read_answer b capacity ≡ accepted) × (number_place (hops_in b) ≤ capacity)
  unfolding read_answer
  read_accepts capacity z =
      let (f, g) = both_accept (format_answer b) (and_then (check_of (shape_in b) (hop_list_in b)) (capacity_answer (number_place (hops_in b)) capacity)) z in
      let (h, r) = both_accept (check_of (shape_in b) (hop_list_in b)) (capacity_answer (number_place (hops_in b)) capacity) g in
      let (a, l) = capacity_accepts (number_place (hops_in b)) capacity r in
      (second_accepts (format_answer b) _ z ∙ second_accepts (check_of (shape_in b) (hop_list_in b)) _ g ∙ a, l)

  pub graph_accepts : (capacity : ℕ) → (read_answer b capacity).number ≡ 0 → (check_of (shape_in b) (hop_list_in b)).number ≡ 0
  unfolding read_answer
  graph_accepts capacity z =
      (both_accept (check_of (shape_in b) (hop_list_in b)) (capacity_answer (number_place (hops_in b)) capacity)
      (both_accept (format_answer b) (and_then (check_of (shape_in b) (hop_list_in b)) (capacity_answer (number_place (hops_in b)) capacity)) z).1).0

  pub hops_most : (capacity : ℕ) → (read_answer b capacity).number ≡ 0 → hops_in b ≤ most_hops
  hops_most capacity z = graph_few refl (graph_accepts capacity z)

  -- an accepted file has the form that it should
  pub accepted_sound : (capacity : ℕ) → (read_answer b capacity).number ≡ 0 → Sound b
  unfolding read_answer
  accepted_sound capacity z =
      format_sound b (both_accept (format_answer b) (and_then (check_of (shape_in b) (hop_list_in b)) (capacity_answer (number_place (hops_in b)) capacity)) z).0

  pub gives_answer : (capacity : ℕ) → (read_of b capacity).answer ≡ read_answer b capacity
  unfolding read_of
  gives_answer capacity =
      ⊎_elim (λ z. rw (eq-eqb (read_answer b capacity).number 0 z) (sym (read_accepts capacity z).0))
      (λ n. rw (ne_eqb (read_answer b capacity).number 0 n)) (eq_or_not (read_answer b capacity).number 0)

  -- what is returned and written with a refusal and with acceptance
  module _ (old : List ℕ) where
    pub refused_gives : {a : Answer} → a ≡ read_answer b (length old) → (a.number ≡ 0 → ⊥) → (refused_contents a ≡ read_of b (length old)) × (old ≡ read_hops b old)
    unfolding read_of read_hops
    refused_gives e n = (rw (← e, ne_eqb _ _ n), rw (← e, ne_eqb _ _ n))

    pub accepted_gives : accepted ≡ read_answer b (length old) → (contents_of b ≡ read_of b (length old)) × (on_front (hop_list_in b) old ≡ read_hops b old)
    unfolding read_of read_hops
    accepted_gives e = (rw (← e), rw (← e))

-- "file ends before its contents": every proper front of an accepted file is refused with 11, at
-- its own length
pub front_ends_early : (b : List ℕ) (capacity k : ℕ) → (read_answer b capacity).number ≡ 0 → k < length b → read_answer (take k b) capacity ≡ refused 11 k
front_ends_early b capacity k e l = sym (format_speaks (take k b) capacity (front_refused b k l (accepted_sound b capacity e)) (λ z. absurd (omega arith)))
