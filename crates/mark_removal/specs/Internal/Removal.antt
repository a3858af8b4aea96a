-- Marks removed while sweeps run, for any condition: what they keep, and what tests leave of them.
-- Assumes nothing: these are definitions.
use Rattle.std.specs.Prelude.{ℕ, ◌+◌, ◌<◌, ◌≤◌, ◌≡◌, true, ◌⊎◌, List, length, get_or, drop}
use Rattle.base_bounded.specs.Quantifiers.{tally}
use Rattle.graph.specs.Hops.{count, label}
use Rattle.base_fixpoint.specs.Pairs.{Pairs}
use Rattle.mark_confluence.specs.Internal.MarkSet.{is_marked, mark_set}

-- how many hops are marked
unfoldable pub mark_count : List ℕ → List ℕ → ℕ
mark_count hs ms = tally (count hs) (is_marked ms)

-- what marks keep while sweeps run: they are 1 or 0, 1 at silent hops only, and they hold the set m
-- that is sought
pub record Marking (hs : List ℕ) (m : Pairs) (ms : List ℕ) : Type 0 where
  pub capacity : count hs ≤ length ms
  pub bits : (i : ℕ) → i < count hs → (get_or ms i 0 ≡ 0) ⊎ (get_or ms i 0 ≡ 1)
  pub silent : (i : ℕ) → i < count hs → is_marked ms i ≡ true → label hs i ≡ 0
  pub holds : (s t : ℕ) → m s t ≡ true → mark_set hs ms s t ≡ true

-- what tests leave of marks: r marks went, none of them of the set m, and if none went then
-- something is known of the marks
pub record Swept (hs : List ℕ) (m : Pairs) (Known : List ℕ → Type 0) (ms new : List ℕ) (r : ℕ) : Type 0 where
  pub marking : Marking hs m new
  pub beyond : drop (count hs) new ≡ drop (count hs) ms
  pub fewer : mark_count hs new + r ≤ mark_count hs ms
  pub same : r ≡ 0 → (new ≡ ms) × Known ms
