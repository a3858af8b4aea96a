-- `file_hops::hops::put_each_hop`: a hop more. Assumes nothing.
use native.Mathlib.Omega.{arith}
use Rattle.file_hops.proofs.Field.{hops_none, hops_more, hops_done}
use Rattle.file_hops.proofs.hops.put_each_hop.Goals as goal

pub loop-i-init : goal.loop-i-init
loop-i-init c = hops_none c.args.at c.args.out.now c.args.hops.now

pub loop-i-preserved : goal.loop-i-preserved
loop-i-preserved c =
    hops_more c.args.at c.args.out.now c.args.hops.now c.loop-i.invariant c.hop_at.ensures c.put_hop_bytes.ensures (omega arith) c.requires

pub returns : goal.returns
returns c =
    hops_done c.args.at c.args.out.now c.args.hops.now c.loop-i.invariant c.hop_count-i-end.ensures (omega arith) (omega arith)
