-- The elements below s are filled, and `at` is where the hops of s begin.
use Rattle.std.proofs.Common.{ℕ, ◌+◌, ◌<◌, ◌≡◌, length, get_or}
use Rattle.graph.specs.Search.{first_of}
use Rattle.graph.specs.Answers.{most_states}
use Rattle.graph_successors.proofs.put_starts.Given as goal

abbrev pub invariant-loop-s : goal.invariant-loop-s
invariant-loop-s l = record {
  sized : length l.starts ≡ most_states + 1;
  here : l.at ≡ first_of l.hops l.s;
  filled : (t : ℕ) → t < l.s → get_or l.starts t 0 ≡ first_of l.hops t;
}
