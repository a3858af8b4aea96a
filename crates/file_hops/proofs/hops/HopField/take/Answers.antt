-- `file_hops::hops::HopField::take`: a hop more. Assumes nothing.
use mathlib.Core.Path.{◌∙◌}
use native.Mathlib.Omega.{arith}
use Rattle.graph.specs.Internal.Hops.{over}
use Rattle.file_hops.specs.Field.{hop_in, hops_in_field}
use Rattle.file_hops.proofs.Lists.{by_none, by_more, by_done}
use Rattle.file_hops.proofs.hops.HopField.take.Goals as goal

pub loop-i-init : goal.loop-i-init
loop-i-init c = let s = c.args.self in by_none (hop_in s.file.now s.at s.lines) c.args.hops.now

pub loop-i-preserved : goal.loop-i-preserved
loop-i-preserved c =
    let s = c.args.self in
    c.put_hop.ensures ∙ by_more (hop_in s.file.now s.at s.lines) c.args.hops.now c.loop-i.invariant c.hop_in.ensures (omega arith)

pub returns : goal.returns
unfolding over hops_in_field
returns c =
    let s = c.args.self in
    by_done (hop_in s.file.now s.at s.lines) c.args.hops.now c.loop-i.invariant (omega arith) (omega arith)
