-- The table has no bit at first, and each bit put is one bit more. Assumes nothing.
use Rattle.std.proofs.Common.{◌+◌, ◌<◌, length, arith}
use Rattle.graph.specs.Answers.{most_states}
use Rattle.graph.specs.Internal.Key.{number_by_at}
use Rattle.mark_batch_tables.proofs.Keys.{key_in, put_length, key_table_none, key_table_more}
use Rattle.mark_batch_tables.proofs.put_keys.Goals as goal

pub loop-b-init : goal.loop-b-init
loop-b-init c = key_table_none (number_by_at c.args.key c.args.hops.now) c.args.batch.base most_states c.args.words.now c.requires.empty

pub loop-b-preserved : goal.loop-b-preserved
loop-b-preserved c =
    let v = c.loop-b in
    let k = key_in c.requires.admitted c.args.key {i = c.args.batch.base + v.b} (omega arith) in
    let l : c.number_by_at.result < length v.words = omega (arith, put_length v.words c.number_by_at.result v.b c.put_bit.ensures, c.number_by_at.ensures, k) in
    key_table_more (number_by_at c.args.key c.args.hops.now) c.args.batch.base v.b v.words c.put_bit.new.words c.number_by_at.result v.invariant
    c.number_by_at.ensures l c.put_bit.ensures
