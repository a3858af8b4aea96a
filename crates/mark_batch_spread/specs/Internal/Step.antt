-- What one step does to a table of words, and a pass of such steps. Assumes nothing: these are
-- definitions.
use Rattle.std.specs.Prelude.{ℕ, zero, suc, ◌+◌, ◌-◌, Bool, true, false, cond, not, List, get_or, set}
use Rattle.std.specs.Int.Bits.{bit_or}
use Rattle.graph.specs.Hops.{from, to}
use Rattle.mark_confluence.specs.Internal.MarkSet.{is_marked}
use Rattle.mark_batch_spread.specs.declared.Way.{Way}
use Rattle.mark_batch_spread.specs.declared.Way.TheVariants.{Back, Forth}

-- the place in an order of n hops that a pass visits after k others: from the last downward, or
-- from the first upward
abbrev pub visit_at : ℕ → Bool → ℕ → ℕ
visit_at n down k = cond down (n - (k + 1)) k

-- and the hop there
abbrev pub visited_hop : List ℕ → ℕ → Bool → ℕ → ℕ
visited_hop sorted n down k = get_or sorted (visit_at n down k) 0

-- whether bits spread back
abbrev pub is_back : Way → Bool
is_back Back = true
is_back Forth = false

-- the end of the hop at i that bits come from: its to if they spread back, its from if not
abbrev pub end_at : List ℕ → Bool → ℕ → ℕ
end_at hs back i = cond back (to hs i) (from hs i)

-- the table in which t has the bits of s, too
abbrev pub spread_to : List ℕ → ℕ → ℕ → List ℕ
spread_to ws s t = set ws t (bit_or (get_or ws t 0) (get_or ws s 0))

-- the table after the hop at i, which spreads bits from one end to the other if it is marked
abbrev pub step_at : List ℕ → List ℕ → Bool → ℕ → List ℕ → List ℕ
step_at hs ms back i ws = cond (is_marked ms i) (spread_to ws (end_at hs back i) (end_at hs (not back) i)) ws

-- the table after k steps of a pass that visits the hops at `place 0`, `place 1` and so on
unfoldable pub spread_along : List ℕ → List ℕ → Bool → (ℕ → ℕ) → ℕ → List ℕ → List ℕ
spread_along hs ms back place zero ws = ws
spread_along hs ms back place (suc k) ws = step_at hs ms back (place k) (spread_along hs ms back place k ws)

-- the table after a pass over all n of the order
abbrev pub spread_over : List ℕ → List ℕ → List ℕ → ℕ → Bool → Bool → List ℕ → List ℕ
spread_over hs ms sorted n down back ws = spread_along hs ms back (visited_hop sorted n down) n ws
