-- What `pass_on` leaves is the pass of the definition, and that is what the order makes of it.
-- Assumes nothing.
use Rattle.std.proofs.Common.{◌≡◌, ◌-◌, ◌+◌, true, arith, ap, get_or, length, ◌∙◌}
use Rattle.mark_batch_spread.specs.Internal.Step.{visited_hop}
use Rattle.mark_batch_spread.proofs.Along.{along_none, along_more, passed_on}
use Rattle.mark_batch_spread.proofs.Order.{in_order}
use Rattle.mark_batch_spread.proofs.pass_on.Goals as goal

pub loop-k-init : goal.loop-k-init
loop-k-init c =
    let n = length c.args.marked.silent.sorted.now in
    let e : n - n ≡ 0 = omega arith in
    rw e (along_none _ _ _ _ _)

pub loop-k-preserved : goal.loop-k-preserved
loop-k-preserved c =
    let sorted = c.args.marked.silent.sorted.now in
    let n = length sorted in
    let k = c.loop-k.k in
    let j : n - (k - 1) ≡ (n - k) + 1 = omega arith in
    let i : k - 1 ≡ n - ((n - k) + 1) = omega arith in
    rw j (along_more _ _ _ (visited_hop sorted n true) _ _
    (c.from.ensures ∙ ap (λ j. get_or sorted j 0) i) c.loop-k.invariant c.step.ensures)

pub returns : goal.returns
returns c =
    let m = c.args.marked in
    let s = m.silent in
    let n = length s.sorted.now in
    let e : n - c.loop-k.k ≡ n = omega arith in
    rw (rw e at c.loop-k.invariant) (passed_on (in_order s.ordered) m.marks.now s.ready c.args.words.now c.told-words)
