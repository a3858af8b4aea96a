-- State s is written where it has its flag. Assumes nothing.
use native.Mathlib.Omega.{arith}
use Rattle.std.proofs.Common.{◌∙◌}
use Rattle.std.proofs.lemmas.List.{drop-set-lt}
use Rattle.walk_reach.specs.Internal.Frontier.{visited}
use Rattle.walk_acyclic.proofs.Flags.{raised_set_other, put_more, put_over}
use Rattle.walk_acyclic.proofs.put_flags.Goals as goal
use Rattle.walk_acyclic.proofs.put_flags.Goals.{then-is_ranked, else-is_ranked}

pub loop-s-preserved : goal.loop-s-preserved
unfolding visited
loop-s-preserved g c =
    let i = c.loop-s.invariant in
    elim c.if-is_ranked.branch [
      | then-is_ranked w ↦ rw w.ranked-is
          (record {
            passed = put_more g.F.Flag.raised c.loop-s.ranked c.loop-s.s w.of.result w.of.ensures c.args.flags.now c.args.ranked.now (omega arith) w.if-is_ranked.true i.passed;
            left = λ t l. raised_set_other g.F.Flag.raised c.loop-s.ranked c.loop-s.s w.of.result w.of.ensures t (λ e. omega arith) ∙ i.left t (omega arith);
            rest = drop-set-lt c.args.states c.loop-s.ranked c.loop-s.s w.of.result (omega arith) ∙ i.rest;
          })
      | else-is_ranked w ↦ rw w.ranked-is
          (record {
            passed = put_over g.F.Flag.raised c.loop-s.ranked c.args.ranked.now c.loop-s.s c.args.flags.now w.if-is_ranked.false (i.left c.loop-s.s (omega arith)) i.passed;
            left = λ t l. i.left t (omega arith);
            rest = i.rest;
          })
    ]
