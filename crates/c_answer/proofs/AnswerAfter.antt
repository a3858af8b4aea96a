-- What an answer slice and the other lent slices hold afterwards, where the answer slice is too
-- short or long enough. Assumes nothing.
use Prim.Native.Nat.{ℕ, ◌<◌, ◌≤◌}
use mathlib.Core.Path.{◌≡◌}
use mathlib.Core.List.{List}
use borrow.Author.Tests.{le-leb, lt-leb}
use lib.ListN.{length}
use Rattle.base_outputs.specs.Output.{on_front}
use Rattle.c_answer.specs.Numbers.{answer_after, unless_short}

module _ (n : ℕ) (new old : List ℕ) where
  pub short_answer_after : length old < n → answer_after n new old ≡ old
  unfolding answer_after
  short_answer_after l = rw (lt-leb n (length old) l)

  pub long_answer_after : n ≡ length new → n ≤ length old → answer_after n new old ≡ on_front new old
  unfolding answer_after
  long_answer_after d l = rw (← d, le-leb n (length old) l)

module _ (n : ℕ) (answer new old : List ℕ) where
  pub short_kept : length answer < n → unless_short n answer new old ≡ old
  unfolding unless_short
  short_kept l = rw (lt-leb n (length answer) l)

  pub long_left : n ≤ length answer → unless_short n answer new old ≡ new
  unfolding unless_short
  long_left l = rw (le-leb n (length answer) l)

-- for `using`: what the outputs hold, the answer slice being too short or long enough
pub ruleset outputs = (short_answer_after, long_answer_after, short_kept, long_left)
