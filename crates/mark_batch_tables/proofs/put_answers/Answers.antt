-- Staying answers first, then each hop, and after the last they are all. Assumes nothing.
use Rattle.std.proofs.Common.{◌≡◌, ◌<◌, ap, ◌∙◌, length, arith}
use Rattle.graph.specs.Hops.{count, from, label, to}
use Rattle.graph.specs.declared.Hop.{Hop}
use Rattle.mark_batch_tables.proofs.Answered.{answered_none, answered_more, answered_all}
use Rattle.mark_batch_tables.proofs.put_answers.Goals as goal

pub loop-i-init : goal.loop-i-init
loop-i-init c = answered_none _ _ _ _ c.put_stay.ensures

pub loop-i-preserved : goal.loop-i-preserved
loop-i-preserved c =
    let h = c.hop_at-h.ensures in
    let begin : c.from-in-loop-i-2.result ≡ from c.args.hops.now c.loop-i.i = c.from-in-loop-i-2.ensures ∙ ap (λ (h : Hop). h.from) h in
    let end : c.from.result ≡ to c.args.hops.now c.loop-i.i = c.from.ensures ∙ ap (λ (h : Hop). h.to) h in
    let by : c.from-in-loop-i.result ≡ label c.args.hops.now c.loop-i.i = c.from-in-loop-i.ensures ∙ ap (λ (h : Hop). h.label) h in
    let i : c.loop-i.i < count c.args.hops.now = omega arith in
    let l : c.from-in-loop-i-2.result < length c.loop-i.out = omega (arith, c.requires.range.from_in c.loop-i.i i, c.requires.states_most) in
    answered_more _ _ _ c.loop-i.invariant begin end by l

pub returns : goal.returns
returns c =
    let e : c.loop-i.i ≡ count c.args.hops.now = omega arith in
    answered_all _ _ _ (rw e at c.loop-i.invariant)
