-- Laws of the flat list of records: writing it record by record, and what the entries say of more
-- records than a graph may have hops.
--     done ys xs i     xs with the first i of ys written at its front
--     done_n           all of ys are written
--     done_length      it is as long as xs
--     done_step        one record more
-- Assumes nothing.
use Prim.Native.Nat.{ℕ, suc, ◌+◌, ◌<◌, ◌≤◌}
use mathlib.Core.Path.{◌≡◌, refl, sym, ◌∙◌, ap}
use mathlib.Core.Bool.{◌&&◌}
use mathlib.Core.List.{List, [], ◌∷◌, ◌++◌}
use native.Mathlib.Numerals.{add-one}
use native.Mathlib.Omega.{arith}
use borrow.Author.Tests.{lt-leb}
use lib.Dec.{leb}
use lib.ListN.{length, take, get_or, set}
use lib.Seq.{length-take-le, take-length, take-suc, set_at}
use Rattle.graph.specs.Hops.{count, whole, hop_at, flat}
use Rattle.graph.specs.Internal.Hops.{no_hop, put, front, over}
use Rattle.graph.specs.Answers.{most_states, most_labels, most_hops, refused}
use Rattle.graph_check.specs.Check.{counts_fit, check_of}
use Rattle.graph.specs.declared.Hop.{Hop}
use Rattle.graph.specs.declared.Shape.{Shape}
use Rattle.base_bounded.proofs.Bools.{not_no, and_no_left, and_no_right}
use Rattle.graph_check.proofs.Checked.{check_counts}
use Rattle.graph.proofs.Fronts.{length_front, over_front, put_over, length_over, front_over, over_over}
use Rattle.graph.proofs.Places.{count_flat}
use Rattle.mark_entry.specs.Mark.{mark_answer, mark_output}

abbrev pub done : List Hop → List ℕ → ℕ → List ℕ
done ys xs i = over (take i ys) xs

module _ (ys : List Hop) (xs : List ℕ) where
  pub done_n : done ys xs (length ys) ≡ over ys xs
  done_n = ap (λ (l : List Hop). over l xs) (take-length ys)

  module _ (m : length ys ≤ count xs) where
    pub done_length : (i : ℕ) → i ≤ length ys → length (done ys xs i) ≡ length xs
    done_length i l = length_over xs (take i ys) (omega (arith, length-take-le i ys l))

    pub done_step : (i : ℕ) → i < length ys → put (done ys xs i) i (get_or ys i no_hop) ≡ done ys xs (i + 1)
    unfolding front
    done_step i l =
        ap (λ (z : List ℕ). put z i h) (sym (over_front hs (suc i) (omega (arith, done_length i (omega arith)))))
        ∙ put_over hs h (front (suc i) hs) (omega (arith, length_front hs (suc i)))
        ∙ ap (λ (z : List Hop). over z hs) written
        ∙ over_over xs (take i ys) (take (i + 1) ys) (omega (arith, length-take-le i ys (omega arith), length-take-le (i + 1) ys (omega arith)))
      where
        hs : List ℕ
        hs = done ys xs i

        h : Hop
        h = get_or ys i no_hop

        as_many : length (take i ys) ≡ i
        as_many = length-take-le i ys (omega arith)

        written : set (front (suc i) hs) i h ≡ take (i + 1) ys
        written =
            set_at (front i hs) (hop_at hs i) [] h i (length_front hs i)
            ∙ ap (λ (z : List Hop). z ++ (h ∷ [])) (ap (λ (k : ℕ). front k hs) (sym as_many) ∙ front_over xs (take i ys))
            ∙ (sym (take-suc ys i no_hop l) ∙ ap (λ (k : ℕ). take k ys) (sym (add-one i)))

-- "4,097 give 1"
pub check_over : (sh : Shape) (ys : List Hop) → most_hops < length ys → check_of sh (flat ys) ≡ refused 1 0
unfolding counts_fit
check_over sh ys l =
    sym (check_counts sh (flat ys) refl (not_no (and_no_left (whole (flat ys)) (and_no_right (leb 1 sh.states && leb sh.states most_states && leb 1 sh.labels && leb sh.labels most_labels) (lt-leb (count (flat ys)) most_hops (rw (count_flat ys) l))))))

pub mark_over : (sh : Shape) (ys : List Hop) (k : ℕ) (out : List ℕ) → most_hops < length ys → mark_answer sh (flat ys) k out ≡ refused 1 0
unfolding mark_answer
mark_over sh ys k out l = rw (check_over sh ys l)

pub output_over : (sh : Shape) (ys : List Hop) (k : ℕ) (out : List ℕ) → most_hops < length ys → mark_output sh (flat ys) k out ≡ out
unfolding mark_output
output_over sh ys k out l = rw (mark_over sh ys k out l)
