-- How long texts are at most, and that the buffer holds the longest: a number below 10,000 takes 4
-- digits, one below 100,000 takes 5, any takes 20; and a hop is marked or becomes a short hop, and
-- never both. Assumes nothing.
use Prim.Native.Nat.{ℕ, zero, suc, ◌+◌, ◌*◌, ◌/◌, ◌%◌, ◌<◌, ◌≤◌}
use mathlib.Core.Path.{◌≡◌, refl}
use mathlib.Core.Bool.{Bool, true, false, cond, ◌&&◌}
use mathlib.Core.List.{List, [], ◌∷◌, ◌++◌}
use mathlib.Core.Logic.{⊎_elim}
use native.Mathlib.Nat.{le_refl, suc-mul}
use native.Mathlib.Omega.{arith}
use borrow.Author.Tests.{lt-ltb, eq-eqb}
use lib.ListN.{length, get_or, length-append}
use lib.Dec.{ltb, eqb}
use Rattle.base_bounded.specs.Quantifiers.{tally}
use Rattle.base_bounded.proofs.Bools.{eq_or_not, and_yes}
use Rattle.base_bounded.proofs.Quantifiers.{any_found, tally_within}
use Rattle.base_bounded.proofs.Tallies.{tally_full, tally_both}
use Rattle.graph.specs.Hops.{count, from, label, to, line_at, flat, number_place}
use Rattle.graph.proofs.Places.{count_flat}
use Rattle.graph_check.specs.Check.{Admitted}
use Rattle.graph.specs.declared.Shape.{Shape}
use Rattle.graph.specs.declared.Answer.{Answer}
use Rattle.base_fixpoint.specs.Pairs.{Pairs}
use Rattle.mark_confluence.specs.Rounds.{marked}
use Rattle.mark_confluence.specs.Marks.{mark_of}
use Rattle.mark_confluence.proofs.Marked.{marked_confluent}
use Rattle.reduce_representatives.specs.Internal.Representative.{Terminating}
use Rattle.reduce_representatives.specs.Representative.{marked_from, is_normal, map_of}
use Rattle.reduce_representatives.specs.Reducible.{Reducible}
use Rattle.reduce_representatives.proofs.Marked.{silent_terminating}
use Rattle.reduce_short_graph.specs.Short.{short_hops, short_shape}
use Rattle.reduce_short_graph.proofs.Images.{short_few}
use Rattle.reduce_short_graph.proofs.Lines.{short_line_smallest}
use Rattle.reduce_short_graph.proofs.Reduces.{shape_admitted, map_inside}
use Rattle.report_text.proofs.Decimal.{limit}
use Rattle.report_text.specs.Text.{digits, decimal, spaced, spaced_numbers, text_line, in_word, marked_word, map_word, out_word, hop_word, no_word}
use Rattle.base_outputs.specs.Concat.{concat}
use Rattle.report_rows.specs.Rows.{marked_line, map_line, hop_line, lines_of, refusal_of}
use Rattle.report_entry.specs.Report.{report_of, most_text}

-- the numbers of a list have 16 bits
abbrev pub NarrowList : List ℕ → Type 0
NarrowList hs = (i : ℕ) → get_or hs i 0 < 65536

-- the hop at place i is a silent one of u
abbrev is_in : List ℕ → Pairs → ℕ → Bool
is_in hs u i = eqb (label hs i) 0 && u (from hs i) (to hs i)

digits_most : (k n : ℕ) → length (digits k n) ≤ k
unfolding digits
digits_most zero n = le_refl 0
digits_most (suc k) n = go (ltb n 10) (digits_most k (n / 10)) where
  go : (t : Bool) → length (digits k (n / 10)) ≤ k → length (cond t ((48 + n) ∷ []) (digits k (n / 10) ++ ((48 + n % 10) ∷ []))) ≤ suc k
  go true h = omega arith
  go false h = omega (arith, length-append (digits k (n / 10)) ((48 + n % 10) ∷ []))

-- a number below 10 to the power of j, for j above 0, takes j digits at most
digits_few : (j k n : ℕ) → n < limit (suc j) → length (digits k n) ≤ suc j
unfolding digits limit
digits_few j zero n l = omega arith
digits_few zero (suc k) n l = rw (lt-ltb n 10 (omega arith)) (le_refl 1)
digits_few (suc j) (suc k) n l = go (ltb n 10) (digits_few j k (n / 10) (omega arith)) where
  go : (t : Bool) → length (digits k (n / 10)) ≤ suc j → length (cond t ((48 + n) ∷ []) (digits k (n / 10) ++ ((48 + n % 10) ∷ []))) ≤ suc (suc j)
  go true h = omega arith
  go false h = omega (arith, length-append (digits k (n / 10)) ((48 + n % 10) ∷ []))

decimal_any : (n : ℕ) → length (decimal n) ≤ 20
unfolding decimal
decimal_any n = digits_most 20 n

decimal_four : (n : ℕ) → n < 10000 → length (decimal n) ≤ 4
unfolding decimal limit
decimal_four = digits_few 3 20

decimal_five : (n : ℕ) → n < 100000 → length (decimal n) ≤ 5
unfolding decimal limit
decimal_five = digits_few 4 20

-- lines whose numbers take w digits at most
module _ (w : ℕ) (word : List ℕ) (a b : ℕ) (p : length (decimal a) ≤ w) (q : length (decimal b) ≤ w) where
  line2_most : length (text_line word (a ∷ b ∷ [])) ≤ length word + (w + w + 3)
  unfolding text_line spaced_numbers spaced
  line2_most = simp length-append (omega arith)

  module _ (c : ℕ) (r : length (decimal c) ≤ w) where
    line3_most : length (text_line word (a ∷ b ∷ c ∷ [])) ≤ length word + (w + w + w + 4)
    unfolding text_line spaced_numbers spaced
    line3_most = simp length-append (omega arith)

    -- the last of four may take v
    line4_most : (v d : ℕ) → length (decimal d) ≤ v → length (text_line word (a ∷ b ∷ c ∷ d ∷ [])) ≤ length word + (w + w + w + v + 5)
    unfolding text_line spaced_numbers spaced
    line4_most v d t = simp length-append (omega arith)

-- the lines of the places that pass p, w each, where the others have none
lines_most : (f : ℕ → List ℕ) (p : ℕ → Bool) (w n : ℕ) → ((i : ℕ) → i < n → length (f i) ≤ cond (p i) w 0) → length (concat n f) ≤ tally n p * w
unfolding concat tally
lines_most f p w zero h = omega arith
lines_most f p w (suc n) h = go (p n) (h n (omega arith)) (lines_most f p w n (λ i l. h i (omega arith))) where
  go : (x : Bool) → length (f n) ≤ cond x w 0 → length (concat n f) ≤ tally n p * w → length (concat n f ++ f n) ≤ (cond x 1 0 + tally n p) * w
  go true l ih = omega (arith, length-append (concat n f) (f n), suc-mul (tally n p) w)
  go false l ih = omega (arith, length-append (concat n f) (f n))

-- a line of w at each place
lines_each : (f : ℕ → List ℕ) (w n : ℕ) → ((i : ℕ) → i < n → length (f i) ≤ w) → length (concat n f) ≤ n * w
lines_each f w n h = rw (tally_full (λ (i : ℕ). true) n (λ i l. refl)) at (lines_most f (λ (i : ℕ). true) w n h)

pub refusal_most : (a : Answer) → length (refusal_of a) ≤ most_text
unfolding refusal_of
refusal_most a =
    omega (arith, line2_most 20 no_word a.number a.place (decimal_any a.number) (decimal_any a.place))

module _ (sh : Shape) (hs : List ℕ) (adm : Admitted sh hs) where
  -- a state, a new one or a label takes four digits
  state_most : {s : ℕ} → s < sh.states → length (decimal s) ≤ 4
  state_most {s} l = decimal_four s (omega (arith, adm.states_most))

  marked_most : (u : Pairs) (i : ℕ) → i < count hs → length (marked_line hs (mark_of hs u) i) ≤ cond (is_in hs u i) 17 0
  unfolding marked_line mark_of
  marked_most u i l = go (is_in hs u i) where
    go : (x : Bool) → length (cond (eqb (cond x 1 0) 1) (text_line marked_word (from hs i ∷ to hs i ∷ [])) []) ≤ cond x 17 0
    go true = line2_most 4 marked_word (from hs i) (to hs i) (state_most (adm.range.from_in i l)) (state_most (adm.range.to_in i l))
    go false = omega arith

  hop_most : (i : ℕ) → i < count hs → line_at hs i < 65536 → length (hop_line hs i) ≤ 25
  unfolding hop_line
  hop_most i l n =
      line4_most 4 hop_word (from hs i) (label hs i) (state_most (adm.range.from_in i l))
      (decimal_four (label hs i) (omega (arith, adm.range.label_in i l, adm.labels_most)))
      (to hs i) (state_most (adm.range.to_in i l)) 5 (line_at hs i) (decimal_five (line_at hs i) (omega arith))

-- a state that a hop of u leaves is not normal: so the marked hops and the short hops together are
-- at most as many as the hops
module _ (sh : Shape) (hs : List ℕ) (u : Pairs) where
  moved : (i : ℕ) → i < count hs → is_in hs u i ≡ true → is_normal hs u (from hs i) ≡ false
  unfolding is_normal marked_from
  moved i l e = rw (any_found (marked_from hs u (from hs i)) (count hs) l (and_yes (eq-eqb (from hs i) (from hs i) refl) e))

  once : tally (count hs) (is_in hs u) + length (short_hops sh hs u) ≤ count hs
  once =
      omega (
        arith,
        short_few sh hs u,
        tally_both (is_in hs u) (λ (i : ℕ). is_normal hs u (from hs i)) (λ (i : ℕ). true) (count hs) (λ i l e. (moved i l e, refl)) (λ i l e. refl),
        tally_within (λ (i : ℕ). true) (count hs),
      )

-- the line of a short hop is 0 or the line of a hop, and so of 16 bits where those are
line_narrow : (sh : Shape) (hs : List ℕ) (u : Pairs) → NarrowList hs → (i : ℕ) → i < count (flat (short_hops sh hs u)) → line_at (flat (short_hops sh hs u)) i < 65536
line_narrow sh hs u n i l = ⊎_elim (λ z. omega arith) (λ p. let (j, _, _, e) = (short_line_smallest sh hs u l).one_of_theirs (omega arith) in omega (arith, e, n (number_place j + 3)))
    (eq_or_not (line_at (flat (short_hops sh hs u)) i) 0)

-- 13 bytes for `in`, 17 a marked hop, 14 a state, 19 for `out`, 25 a short hop
pub report_most : {sh : Shape} {hs : List ℕ} → Reducible sh hs → NarrowList hs → length (report_of sh hs) ≤ most_text
unfolding report_of lines_of map_line
report_most {sh} {hs} red narrow =
    simp length-append
    (omega (
      arith,
      line2_most 4 in_word sh.states (count hs) (decimal_four sh.states (omega (arith, adm.states_most))) (decimal_four (count hs) (omega (arith, adm.hops_most))),
      lines_most (marked_line hs (mark_of hs u)) (is_in hs u) 17 (count hs) (marked_most sh hs adm u),
      lines_each (map_line (map_of sh hs u)) 14 sh.states (λ s l. line2_most 4 map_word s (map_of sh hs u s) (state_most sh hs adm l) (state_most new xs short (map_inside adm settles s l))),
      line3_most 4 out_word new.states (count xs) (decimal_four new.states (omega (arith, short.states_most))) (decimal_four (count xs) (omega (arith, short.hops_most))) new.initial (state_most new xs short short.initial_in),
      lines_each (hop_line xs) 25 (count xs) (λ i l. hop_most new xs short i l (line_narrow sh hs u narrow i l)),
      count_flat (short_hops sh hs u),
      once sh hs u,
      adm.hops_most,
      adm.states_most,
    )) where
      adm : Admitted sh hs
      adm = red.admitted

      u : Pairs
      u = marked hs

      settles : Terminating sh hs u
      settles = silent_terminating red u (marked_confluent hs).silent

      new : Shape
      new = short_shape sh hs u

      xs : List ℕ
      xs = flat (short_hops sh hs u)

      short : Admitted new xs
      short = shape_admitted adm settles
