-- The counts up to s stand in the table.
use Rattle.std.proofs.Common.{◌≡◌, ◌<◌, ◌+◌, ℕ, length, get_or}
use Rattle.graph.specs.Answers.{most_states}
use Rattle.base_bounded.specs.Quantifiers.{tally}
use Rattle.reduce_representatives.specs.Internal.Tables.{is_fixed}
use Rattle.reduce_representatives.proofs.renumber.new_numbers.Given as goal

abbrev pub invariant-loop-s : goal.invariant-loop-s
invariant-loop-s l =
    record {
      long : length l.news ≡ most_states + 1;
      counted : l.found ≡ tally l.s (is_fixed l.next);
      filled : (t : ℕ) → t < l.s + 1 → get_or l.news t 0 ≡ tally t (is_fixed l.next);
    }
