-- When a marked hop is answered by two bitset tables, and which marks the filter leaves. Assumes
-- nothing: these are definitions.
use Rattle.std.specs.Prelude.{ℕ, ◌+◌, ◌<◌, ◌≤◌, ◌≡◌, Bool, not, cond, ◌&&◌, ◌||◌, List, length, get_or, drop}
use Rattle.base_bounded.specs.Quantifiers.{all, tally}
use Rattle.graph.specs.Hops.{count, from, to}
use Rattle.mark_confluence.specs.Internal.MarkSet.{is_marked}
use Rattle.base_bitset.specs.Internal.Bits.{bit_in, word_bits}

-- the hop at place i fits: every bit that its start has in `froms`, its end has in `answers`
unfoldable pub fits : List ℕ → List ℕ → List ℕ → ℕ → Bool
fits hs froms answers i = all word_bits (λ (b : ℕ). not (bit_in froms (from hs i) b) || bit_in answers (to hs i) b)

-- the hop at place i is marked and does not fit
abbrev pub fails : List ℕ → List ℕ → List ℕ → List ℕ → ℕ → Bool
fails hs ms froms answers i = is_marked ms i && not (fits hs froms answers i)

-- what the filter leaves: a marked hop that does not fit loses its mark, no other number changes,
-- and r marks went
pub record Filtered (hs ms froms answers new : List ℕ) (r : ℕ) : Type 0 where
  pub long : length new ≡ length ms
  pub beyond : drop (count hs) new ≡ drop (count hs) ms
  pub mark : (i : ℕ) → i < count hs → get_or new i 0 ≡ cond (fails hs ms froms answers i) 0 (get_or ms i 0)
  pub fewer : tally (count hs) (is_marked new) + r ≤ tally (count hs) (is_marked ms)
  pub same : r ≡ 0 → new ≡ ms
