-- What only private functions and proofs cite beside `Search`. Assumes nothing: these are
-- definitions.
use Rattle.std.specs.Prelude.{ℕ, ◌+◌, ◌<◌, ◌≤◌, ◌≡◌, Bool, true, false, ◌&&◌, List, ltb, Result, Ok, Err}
use Rattle.graph.specs.Hops.{count, hop_of, hop_at, is}
use Rattle.graph.specs.Order.{before}
use Rattle.graph.specs.declared.Hop.{Hop}
use Rattle.graph.specs.Search.{lower}

-- what is known of a search between the places lo and hi: the hops below lo are before h, and those
-- from hi on are not
pub record Bracket (hs : List ℕ) (h : Hop) (lo hi : ℕ) : Type 0 where
  pub lo_le : lo ≤ hi
  pub hi_le : hi ≤ count hs
  pub below : (j : ℕ) → j < lo → before (hop_at hs j) h ≡ true
  pub above : (j : ℕ) → hi ≤ j → j < count hs → before (hop_at hs j) h ≡ false

-- h does not stand at the place p, or behind it
unfoldable pub AbsentFrom : List ℕ → Hop → ℕ → Type 0
AbsentFrom hs h p = (j : ℕ) → p ≤ j → j < count hs → is hs h.from h.label h.to j ≡ false

abbrev pub found : Bool → ℕ → Result ℕ ℕ
found true i = Ok i
found false i = Err i

-- Ok: h stands at that place; Err: it does not, and would stand there
unfoldable pub placed : List ℕ → Hop → Result ℕ ℕ
placed hs h = found (ltb (lower hs h) (count hs) && is hs h.from h.label h.to (lower hs h)) (lower hs h)

-- whether a search found the hop
abbrev pub is_at : Result ℕ ℕ → Bool
is_at (Ok i) = true
is_at (Err i) = false

-- the place that it came to
abbrev pub found_place : Result ℕ ℕ → ℕ
found_place (Ok i) = i
found_place (Err i) = i

-- the places of its hops labelled a
unfoldable pub labelled_from : List ℕ → ℕ → ℕ → ℕ
labelled_from hs s a = lower hs (hop_of s a 0)

unfoldable pub labelled_past : List ℕ → ℕ → ℕ → ℕ
labelled_past hs s a = labelled_from hs s (a + 1)
