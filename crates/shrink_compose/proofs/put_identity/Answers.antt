-- `shrink_compose::put_identity` meets its contract: the whole map is the numbers at its front.
-- Assumes nothing.
use Rattle.std.proofs.Common.{ℕ, ◌∙◌, length, refl, arith}
use Rattle.base_bounded.specs.Quantifiers.{tabulate}
use Rattle.base_bounded.proofs.Quantifiers.{length_tabulate}
use Rattle.base_outputs.proofs.Front.{front_all, tabulate_none, tabulate_more, tabulate_done}
use Rattle.shrink_compose.specs.Composed.{identity_map}
use Rattle.shrink_compose.proofs.put_identity.Goals as goal

abbrev own : ℕ → ℕ
own s = s

pub loop-s-init : goal.loop-s-init
loop-s-init c = tabulate_none own c.args.map.now

pub loop-s-preserved : goal.loop-s-preserved
loop-s-preserved c = tabulate_more own c.args.map.now c.loop-s.invariant refl (omega arith)

pub returns : goal.returns
unfolding identity_map
returns c =
    let old = c.args.map.now in
    tabulate_done own old c.loop-s.invariant (omega arith) (omega arith) ∙ front_all (tabulate (length old) own) old (length_tabulate own (length old))
