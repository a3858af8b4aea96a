-- One element more.
use Rattle.std.proofs.Common.{ℕ, refl, length-set, arith}
use Rattle.graph_successors.proofs.Firsts.{filled_more}
use Rattle.reduce_representatives.proofs.follow.identity_table.Goals as goal

pub loop-s-preserved : goal.loop-s-preserved
loop-s-preserved c =
    let v = c.loop-s.invariant in
    record { long = simp length-set v.long; filled = filled_more (λ (t : ℕ). t) c.loop-s.to-items (omega arith) refl v.filled }
