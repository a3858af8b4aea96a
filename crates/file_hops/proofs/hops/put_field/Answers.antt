-- `file_hops::hops::put_field`: the count, then the hops. Assumes nothing.
use native.Mathlib.Omega.{arith}
use Rattle.file_hops.proofs.Field.{field_put}
use Rattle.file_hops.proofs.hops.put_field.Goals as goal

pub returns : goal.returns
returns c =
    field_put c.args.at c.args.out.now c.args.hops.now c.hop_count.ensures c.put_number.ensures c.put_each_hop.ensures (omega (arith, c.requires.capacity))
