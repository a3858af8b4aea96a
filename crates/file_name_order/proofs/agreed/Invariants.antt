-- `file_name_order::agreed`: the bytes passed so far agree, by fours. Assumes nothing.
use Prim.Native.Nat.{◌*◌}
use Rattle.file_name_order.specs.Internal.Pair.{Agree}
use Rattle.file_name_order.proofs.agreed.Given as goal

abbrev pub invariant-loop-k : goal.invariant-loop-k
invariant-loop-k l = Agree l.block l.p l.q (4 * l.k)
