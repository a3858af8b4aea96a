-- `file_fields::has`: the bit of each field is the definition's. Assumes nothing.
use Rattle.file_fields.proofs.Bits.{has_bit}
use Rattle.file_fields.proofs.has.Goals as goal

pub returns : goal.returns
returns c = rw (c.byte_at.ensures, c.bit.ensures) (has_bit c.args.file.now c.args.field)
