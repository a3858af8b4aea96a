-- `file_hops::hops::put_hop_bytes`: its first three numbers, one after the other. Assumes nothing.
use Rattle.file_hops.proofs.Field.{hop_put}
use Rattle.file_hops.proofs.hops.put_hop_bytes.Goals as goal

pub returns : goal.returns
returns c = hop_put _ _ _ c.requires c.put_number.ensures c.put_number-2.ensures c.put_number-3.ensures
