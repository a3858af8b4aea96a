-- All words are put. Assumes nothing.
use Rattle.std.proofs.Common.{◌≡◌, arith}
use Rattle.graph.specs.Answers.{most_states}
use Rattle.mark_batch_tables.proofs.Answered.{stayed_all}
use Rattle.mark_batch_tables.proofs.put_stay.Goals as goal

pub returns : goal.returns
returns c =
    let v = c.loop-s.invariant in
    let e : c.loop-s.s ≡ most_states = omega arith in
    stayed_all c.args.labels.now c.told-ends v.long (rw e at v.stayed)
