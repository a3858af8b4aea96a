-- `file_encode::put_head`: byte 0, then two numbers, one after the other. Assumes nothing.
use mathlib.Core.Path.{refl}
use Rattle.file_encode.proofs.Encoded.{head_put}
use Rattle.file_encode.proofs.put_head.Goals as goal

pub returns : goal.returns
returns c = head_put _ _ _ c.requires.capacity refl c.put_number.ensures c.put_number-2.ensures
