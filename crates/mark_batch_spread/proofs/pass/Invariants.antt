-- `mark_batch_spread::pass`: the table so far is what the definition says of the hops passed.
-- Assumes nothing.
use Rattle.std.proofs.Common.{◌≡◌, false, length}
use Rattle.mark_batch_spread.specs.Internal.Step.{is_back, visited_hop, spread_along}
use Rattle.mark_batch_spread.proofs.pass.Given as goal

abbrev pub invariant-loop-i : goal.invariant-loop-i
invariant-loop-i l =
    l.words ≡ spread_along l.marked.silent.hops.now l.marked.marks.now (is_back l.way) (visited_hop l.marked.silent.sorted.now (length l.marked.silent.sorted.now) false) l.i-index l.initial.words
