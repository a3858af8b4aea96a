-- "with the same answers": a list of records and the flat list that holds them are checked and
-- marked alike, since that flat list is the records' own. Assumes nothing.
use Prim.Native.Nat.{ℕ, ◌%◌, ◌<◌}
use mathlib.Core.Path.{◌≡◌, sym, ap, ◌∙◌}
use mathlib.Core.List.{List, [], ◌++◌, append-nil}
use native.Mathlib.Omega.{arith}
use borrow.Author.Tests.{eqb-true, eq-eqb}
use lib.ListN.{length, drop}
use lib.Seq.{drop-length, ext_get_or}
use Rattle.graph.specs.Hops.{numbers_a_hop, flat}
use Rattle.graph.specs.Internal.Hops.{no_hop, front, over}
use Rattle.graph_check.specs.Check.{check_of}
use Rattle.graph.specs.declared.Hop.{Hop}
use Rattle.graph.specs.declared.Shape.{Shape}
use Rattle.graph.proofs.Fronts.{length_front, get_d_front, over_front}
use Rattle.graph.proofs.Places.{length_flat, count_flat, flat_at}
use Rattle.mark_entry.specs.Mark.{mark_answer, mark_output}
use Rattle.mark_entry_records.specs.Internal.Records.{Holds}

-- the flat list of the records holds them
pub flat_holds : (ys : List Hop) → Holds (flat ys) ys
flat_holds ys = record {
  whole_hops = eq-eqb (length (flat ys) % numbers_a_hop) 0 (omega (arith, length_flat ys));
  as_many = count_flat ys;
  at_each = λ i l. flat_at ys i;
}

-- and no other does
pub holds_flat : (hs : List ℕ) (ys : List Hop) → Holds hs ys → flat ys ≡ hs
unfolding over
holds_flat hs ys h = sym (append-nil (flat ys)) ∙ ap (λ (l : List ℕ). flat ys ++ l) (sym nothing_past) ∙ written where
  as_long : length (flat ys) ≡ length hs
  as_long = omega (arith, length_flat ys, h.as_many, eqb-true (length hs % numbers_a_hop) 0 h.whole_hops)

  nothing_past : drop (length (flat ys)) hs ≡ []
  nothing_past = rw as_long (drop-length hs)

  firsts : front (length ys) hs ≡ ys
  firsts =
      ext_get_or no_hop (front (length ys) hs) ys (length_front hs (length ys))
      (λ i l. let k : i < length ys = omega (arith, length_front hs (length ys)) in get_d_front hs (length ys) k ∙ h.at_each i k)

  written : over ys hs ≡ hs
  written = ap (λ (xs : List Hop). over xs hs) (sym firsts) ∙ over_front hs (length ys) (omega (arith, h.as_many))

pub same_answers : (sh : Shape) (ys : List Hop) (hs : List ℕ) (k : ℕ) (out : List ℕ) → Holds hs ys →
    (check_of sh (flat ys) ≡ check_of sh hs) × (mark_answer sh (flat ys) k out ≡ mark_answer sh hs k out) × (mark_output sh (flat ys) k out ≡ mark_output sh hs k out)
same_answers sh ys hs k out h =
    let e = holds_flat hs ys h in
    (ap (check_of sh) e, ap (λ (l : List ℕ). mark_answer sh l k out) e, ap (λ (l : List ℕ). mark_output sh l k out) e)
