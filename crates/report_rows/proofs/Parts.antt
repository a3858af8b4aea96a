-- The lines of a report in the words of the code that puts them, and reports that show the same.
-- Assumes nothing.
use Prim.Native.Nat.{ℕ, zero, suc, ◌<◌, ◌≤◌}
use mathlib.Core.Path.{◌≡◌, refl}
use mathlib.Core.List.{List, [], ◌∷◌}
use lib.ListN.{length, take}
use native.Mathlib.Omega.{arith}
use borrow.Author.Tests.{eq-eqb, ne_eqb}
use Rattle.std.proofs.lemmas.List.{length-take-le, get_or-take}
use Rattle.graph.specs.Hops.{count, from, label, to, line_at}
use Rattle.graph.specs.declared.Shape.{Shape}
use Rattle.report_text.specs.Text.{text_line, marked_word, map_word, hop_word}
use Rattle.base_outputs.specs.Concat.{concat}
use Rattle.report_rows.specs.Rows.{marked_line, map_line, hop_line, lines_of}
use Rattle.report_rows.specs.Internal.Rows.{by_place, map_lines}

module _ (hs : List ℕ) (mark : ℕ → ℕ) (i : ℕ) where
  pub mark_yes : mark i ≡ 1 → {f t : ℕ} → f ≡ from hs i → t ≡ to hs i → marked_line hs mark i ≡ text_line marked_word (f ∷ t ∷ [])
  unfolding marked_line
  mark_yes e p q = rw (eq-eqb (mark i) 1 e, p, q)

  pub mark_no : (mark i ≡ 1 → ⊥) → marked_line hs mark i ≡ []
  unfolding marked_line
  mark_no n = rw (ne_eqb (mark i) 1 n)

pub map_parts : (map : ℕ → ℕ) (s : ℕ) {v : ℕ} → v ≡ map s → map_line map s ≡ text_line map_word (s ∷ v ∷ [])
unfolding map_line
map_parts map s e = rw e

pub hop_parts : (hs : List ℕ) (i : ℕ) {f l t s : ℕ} → f ≡ from hs i → l ≡ label hs i → t ≡ to hs i → s ≡ line_at hs i →
    hop_line hs i ≡ text_line hop_word (f ∷ l ∷ t ∷ s ∷ [])
unfolding hop_line
hop_parts hs i p q r e = rw (p, q, r, e)

-- lines of two functions that agree
pub lines_same : (f g : ℕ → List ℕ) (n : ℕ) → ((i : ℕ) → i < n → f i ≡ g i) → concat n f ≡ concat n g
unfolding concat
lines_same f g zero h = refl
lines_same f g (suc n) h = rw (h n (omega arith), lines_same f g n (λ i l. h i (omega arith)))

-- the lines of the map's first n entries
pub map_front : (map : List ℕ) (n : ℕ) → n ≤ length map → map_lines (length (take n map)) (take n map) ≡ map_lines n map
unfolding map_line
map_front map n l =
    rw (length-take-le n map l) (lines_same (map_line (by_place (take n map))) (map_line (by_place map)) n (λ s k. rw (get_or-take n map s 0 k)))

-- marks and maps that agree on the graph give the same lines
pub report_same : (sh : Shape) (hs : List ℕ) {mark mark' map map' : ℕ → ℕ} {new new' : Shape} {short short' : List ℕ} →
    ((i : ℕ) → i < count hs → mark i ≡ mark' i) → ((s : ℕ) → s < sh.states → map s ≡ map' s) → new ≡ new' → short ≡ short' →
    lines_of sh hs mark map new short ≡ lines_of sh hs mark' map' new' short'
unfolding lines_of marked_line map_line
report_same sh hs {mark} {mark'} {map} {map'} f g e d =
    rw (e, d, lines_same (marked_line hs mark) (marked_line hs mark') (count hs) (λ i l. rw (f i l)), lines_same (map_line map) (map_line map') sh.states (λ s l. rw (g s l)))
