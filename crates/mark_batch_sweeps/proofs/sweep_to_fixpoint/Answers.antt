-- The marks hold the marked set, and when none went in a sweep they are those of a set of the
-- sense; where no hop is silent, no hop is marked that could fail. Assumes nothing.
use Rattle.std.proofs.Common.{refl, arith}
use Rattle.mark_senses.specs.Internal.Numbers.{condition_of}
use Rattle.mark_batch_spread.proofs.Order.{in_order}
use Rattle.mark_batch.proofs.Trying.{tried_marks}
use Rattle.mark_batch_sweeps.proofs.sweep_to_fixpoint.Goals as goal

pub loop-fell-init : goal.loop-fell-init
loop-fell-init c =
    let o = in_order c.args.input.silent.ordered in
    record {
      marking = c.requires;
      beyond = refl;
      tried = λ q i j l m lo hi e. let (k, h, w) = o.every i l (c.requires.silent i l m) in absurd (omega arith);
    }

pub returns : goal.returns
returns c =
    let i = c.args.input in
    let v = c.loop-fell.invariant in
    tried_marks (condition_of i.sense) i.shape i.silent.hops.now _ i.admitted.range i.silent.ready.ascending v.marking (v.tried (omega arith)) _ v.beyond
