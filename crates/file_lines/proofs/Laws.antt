-- Laws of the list of lines: how long it is, that lines are read as they were written and written
-- as they were read, and that lines all 0 are those of hops of which none has a line. Assumes
-- nothing.
use Prim.Native.Nat.{ℕ, zero, suc, ◌+◌, ◌*◌, ◌<◌, ◌≤◌}
use mathlib.Core.Path.{◌≡◌, refl, sym, ap, ◌∙◌}
use mathlib.Core.Bool.{Bool, true, false, not, ◌&&◌, ◌||◌}
use mathlib.Core.List.{List, ◌++◌}
use native.Mathlib.Omega.{arith}
use borrow.Author.Tests.{eq-eqb, eqb-true}
use lib.ListN.{length, drop}
use lib.Seq.{drop-drop}
use lib.Dec.{eqb}
use Rattle.base_bounded.specs.Quantifiers.{all, any}
use Rattle.base_bounded.proofs.Bools.{clash, not_yes}
use Rattle.base_bounded.proofs.Quantifiers.{any_never, any_no}
use Rattle.graph.specs.Hops.{count, line_at}
use Rattle.base_outputs.specs.Internal.Output.{over_at}
use Rattle.file_numbers.specs.Numbers.{number_at, number, Bytes}
use Rattle.file_numbers.proofs.TwoBytes.{number_whole, number_drop, number_again}
use Rattle.file_numbers.proofs.Parts.{concat_again, length_concat, concat_at, concat_none, concat_more, concat_done}
use Rattle.file_lines.specs.LineField.{bytes_a_line, lines_length, line_place, line_in, zero_lines, any_line, line_list}
use Rattle.file_lines.specs.Internal.LineField.{LinesLie}
use Rattle.std.specs.Prelude.{Option, Some, None, cond}
use Rattle.base_outputs.specs.Concat.{concat}

-- the bytes of the line of a hop
abbrev pub line_bytes : List ℕ → ℕ → List ℕ
line_bytes hs i = number (line_at hs i)

-- the tests: a hop has a line, the line at a place is 0
abbrev pub lined : List ℕ → ℕ → Bool
lined hs i = not (eqb (line_at hs i) 0)

abbrev pub zero_line : List ℕ → ℕ → ℕ → Bool
zero_line b at i = eqb (number_at b (line_place at i)) 0

module _ (hs : List ℕ) where
  pub length_lines : length (line_list hs) ≡ lines_length (count hs)
  unfolding line_list
  length_lines = length_concat (line_bytes hs) bytes_a_line (λ i. refl) (count hs)

  -- no hop has a line exactly when each line is 0
  pub no_line : any_line hs ≡ false → {i : ℕ} → i < count hs → line_at hs i ≡ 0
  unfolding any_line
  no_line e {i} l = go (eqb (line_at hs i) 0) refl (any_never (lined hs) (count hs) e l) where
    go : (t : Bool) → eqb (line_at hs i) 0 ≡ t → not t ≡ false → line_at hs i ≡ 0
    go true d f = eqb-true _ _ d
    go false d f = clash refl f

  pub none_lined : ((i : ℕ) → i < count hs → line_at hs i ≡ 0) → any_line hs ≡ false
  unfolding any_line
  none_lined f = any_no (lined hs) (count hs) (λ i l. not_yes (eq-eqb _ _ (f i l)))

  -- lines as they are put, one after the other
  module _ (at : ℕ) (old : List ℕ) where
    pub lines_none : old ≡ over_at at (concat 0 (line_bytes hs)) old
    lines_none = concat_none (line_bytes hs) bytes_a_line (λ i. refl) at old

    pub lines_more : {out out' : List ℕ} {i l : ℕ} → out ≡ over_at at (concat i (line_bytes hs)) old → l ≡ line_at hs i → out' ≡ over_at (line_place at i) (number l) out →
        i < count hs → line_place at (count hs) ≤ length old → out' ≡ over_at at (concat (i + 1) (line_bytes hs)) old
    lines_more e h d l m = concat_more (line_bytes hs) bytes_a_line (λ i. refl) at old e (ap number h) d l m

    pub lines_done : {out : List ℕ} {i n : ℕ} → out ≡ over_at at (concat i (line_bytes hs)) old → n ≡ count hs → i ≤ n → n ≤ i → out ≡ over_at at (line_list hs) old
    unfolding line_list
    lines_done e d l m = concat_done (line_bytes hs) bytes_a_line (λ i. refl) at old e (omega arith) (omega arith)

-- what stands from a place on are the lines of the hops
abbrev pub LinesStand : List ℕ → ℕ → List ℕ → Type 0
LinesStand b at hs = (i : ℕ) → i < count hs → number_at b (line_place at i) ≡ line_at hs i

-- a list that was written is read as it was written
pub lines_back : (b hs rest : List ℕ) (at : ℕ) → drop at b ≡ line_list hs ++ rest → LinesStand b at hs
unfolding line_list
lines_back b hs rest at e i l =
    let (t, d) = concat_at (line_bytes hs) bytes_a_line (λ i. refl) (count hs) rest l in
    ap (number_at b) none ∙ number_drop b (line_place at i) 0 ∙ ap (λ (m : List ℕ). number_at m 0) (sym (drop-drop (bytes_a_line * i) at b) ∙ ap (drop (bytes_a_line * i)) e ∙ d) ∙ number_whole (line_at hs i) where
      none : line_place at i ≡ line_place at i + 0
      none = omega arith

-- a list that was read is written as it stands
pub lines_again : (b hs : List ℕ) → Bytes b → (at : ℕ) → LinesStand b at hs → line_place at (count hs) ≤ length b → drop at b ≡ line_list hs ++ drop (line_place at (count hs)) b
unfolding line_list
lines_again b hs small at s l = concat_again (line_bytes hs) bytes_a_line b at (count hs) each where
  each : (i : ℕ) → i < count hs → drop (line_place at i) b ≡ number (line_at hs i) ++ drop (line_place at (suc i)) b
  each i k =
      number_again b small (line_place at i) (omega arith) ∙ ap (λ (n : ℕ). number n ++ drop (line_place at i + bytes_a_line) b) (s i k) ∙
      ap (λ (n : ℕ). number (line_at hs i) ++ drop n b) next where
        next : line_place at i + bytes_a_line ≡ line_place at (suc i)
        next = omega arith

-- the lines of hops are all 0 exactly when none has a line
pub zero_lines_lem : (b hs : List ℕ) (at : ℕ) → LinesStand b at hs → zero_lines b at (count hs) ≡ not (any_line hs)
unfolding zero_lines any_line all any
zero_lines_lem b hs at s = go (count hs) s where
  turn : (x y : Bool) → (x && not y) ≡ not (not x || y)
  turn true y = refl
  turn false y = refl

  go : (n : ℕ) → ((i : ℕ) → i < n → number_at b (line_place at i) ≡ line_at hs i) → all n (zero_line b at) ≡ not (any n (lined hs))
  go zero s = refl
  go (suc n) s = rw (s n (omega arith), go n (λ i l. s i (omega arith))) (turn (eqb (line_at hs n) 0) (any n (lined hs)))

-- the line of a hop, where there is a list exactly if some hop has a line
pub line_back : (b hs : List ℕ) (stand : Bool) (at : ℕ) → stand ≡ any_line hs → (stand ≡ true → LinesStand b at hs) → (i : ℕ) → i < count hs → line_in b (cond stand (Some at) None) i ≡ line_at hs i
unfolding line_in
line_back b hs true at e s i l = s refl i l
line_back b hs false at e s i l = sym (no_line hs (sym e) l)

-- the lines of fewer hops
pub lines_lie_fewer : (b : List ℕ) (ls : Option ℕ) {m n : ℕ} → m ≤ n → LinesLie b ls n → LinesLie b ls m
lines_lie_fewer b None l h = h
lines_lie_fewer b (Some at) l h = omega arith
