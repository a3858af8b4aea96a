-- `mark_batch_spread::pass_on`: the table so far is what the definition says of the
-- hops passed. Assumes nothing.
use Rattle.std.proofs.Common.{◌≡◌, ◌-◌, false, true, length}
use Rattle.mark_batch_spread.specs.Internal.Step.{visited_hop, spread_along}
use Rattle.mark_batch_spread.proofs.pass_on.Given as goal

abbrev pub invariant-loop-k : goal.invariant-loop-k
invariant-loop-k l =
    l.words ≡ spread_along l.marked.silent.hops.now l.marked.marks.now false (visited_hop l.marked.silent.sorted.now (length l.marked.silent.sorted.now) true) (length l.marked.silent.sorted.now - l.k) l.initial.words
