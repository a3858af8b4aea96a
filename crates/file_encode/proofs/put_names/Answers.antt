-- `file_encode::put_names`: a byte more. Assumes nothing.
use native.Mathlib.Omega.{arith}
use Rattle.file_encode.proofs.Bytes.{bytes_none, bytes_more, bytes_done}
use Rattle.file_encode.proofs.put_names.Goals as goal

pub loop-i-init : goal.loop-i-init
loop-i-init c = bytes_none c.args.at c.args.out.now c.args.names.now

pub loop-i-preserved : goal.loop-i-preserved
loop-i-preserved c = bytes_more c.args.at c.args.out.now c.args.names.now c.loop-i.invariant (omega arith) c.requires

pub returns : goal.returns
returns c = bytes_done c.args.at c.args.out.now c.args.names.now c.loop-i.invariant (omega arith) (omega arith)
