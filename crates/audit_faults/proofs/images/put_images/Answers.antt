-- `audit_faults::images::put_images` meets its contract: each place that is written is a hop's.
-- Assumes nothing.
use Rattle.std.proofs.Common.{arith}
use Rattle.audit_faults.specs.Internal.Images.{Imaged}
use Rattle.audit_faults.proofs.images.put_images.Goals as goal

pub returns : goal.returns
unfolding Imaged
returns c = λ j l. c.loop-i.invariant.filled j (omega arith)
