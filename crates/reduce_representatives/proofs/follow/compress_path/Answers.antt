-- One state more has its representative.
use Rattle.std.proofs.Common.{sym, ◌∙◌, arith}
use Rattle.reduce_representatives.specs.Internal.Tables.{ClosedTable}
use Rattle.reduce_representatives.proofs.Compressed.{way_starts, way_more, way_compressed}
use Rattle.reduce_representatives.proofs.follow.compress_path.Goals as goal

pub loop-passed-init : goal.loop-passed-init
loop-passed-init c = record { inside = c.requires.inside; way = way_starts _ _ c.requires.closed c.requires.terminating; rep = c.requires.rep }

pub loop-passed-preserved : goal.loop-passed-preserved
unfolding ClosedTable
loop-passed-preserved c =
    let v = c.loop-passed.invariant in
    let p = c.requires in
    rw c.from-i.ensures
    (record {
      inside = v.way.within _ v.inside;
      way = way_more _ _ p.closed p.terminating v.way _ _ v.inside (omega arith) v.rep;
      rep = v.rep ∙ sym (v.way.leads _ v.inside);
    })

pub returns-after-loop-passed : goal.returns-after-loop-passed
returns-after-loop-passed c = way_compressed _ _ c.requires.closed c.requires.terminating c.loop-passed.invariant.way

pub returns-then-to-rep : goal.returns-then-to-rep
returns-then-to-rep c = way_compressed _ _ c.requires.closed c.requires.terminating c.loop-passed.invariant.way
