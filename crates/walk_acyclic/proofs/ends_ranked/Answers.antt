-- Up to the way out all silent hops lead to ranked states, or one leads to another. Assumes
-- nothing.
use native.Mathlib.Omega.{arith}
use Rattle.std.proofs.Common.{◌≡◌, ◌∙◌, ◌<◌, ap, length, map, sym}
use Rattle.graph.specs.Hops.{to}
use Rattle.graph_successors.proofs.Firsts.{range_more}
use Rattle.walk_reach.specs.Internal.Frontier.{visited}
use Rattle.walk_acyclic.proofs.Flags.{raised_at}
use Rattle.walk_acyclic.proofs.Ranks.{ends_fails, ends_all}
use Rattle.walk_acyclic.proofs.ends_ranked.Given.{Over}
use Rattle.walk_acyclic.proofs.ends_ranked.Goals as goal
use Rattle.walk_acyclic.proofs.ends_ranked.Goals.{After-is_raised-is_unranked}

pub returns-then-label_at-ne0 : goal.returns-then-label_at-ne0
returns-then-label_at-ne0 g c =
    sym (ends_all _ _ _ c.args.graph.admitted.ascending c.loop-i.i (omega arith) (λ l e. c.if-label_at-ne0.true (c.label_at.ensures ∙ e)) c.loop-i.invariant)

-- the flag that is read is that of the hop's end
read : (g : Over) (c : After-is_raised-is_unranked g) → c.is_raised-is_unranked.result ≡ visited (map g.F.Flag.raised c.args.ranked.now) (to c.args.graph.index.hops.now c.loop-i.i)
read g c =
    let end : c.from.result ≡ to c.args.graph.index.hops.now c.loop-i.i = c.from.ensures ∙ c.to_at.ensures in
    let within : c.from.result < length c.args.ranked.now = omega (arith, c.args.graph.admitted.range.to_in c.loop-i.i (omega arith)) in
    c.is_raised-is_unranked.ensures ∙ raised_at g.F.Flag.raised c.args.ranked.now c.from.result _ within c.index-ranked-from.is ∙ ap (visited (map g.F.Flag.raised c.args.ranked.now)) end

pub returns-then-is_unranked : goal.returns-then-is_unranked
returns-then-is_unranked g c =
    sym
    (ends_fails _ _ _ c.args.graph.admitted.ascending c.loop-i.i (omega arith) (omega arith) (sym c.label_at.ensures ∙ c.if-label_at-ne0.false)
    (sym (read g (goal.at.returns-then-is_unranked g c).After-is_raised-is_unranked) ∙ c.if-is_unranked.true))

pub loop-i-preserved : goal.loop-i-preserved
loop-i-preserved g c =
    range_more c.loop-i.invariant (sym (read g (goal.at.loop-i-preserved g c).After-is_raised-is_unranked) ∙ c.if-is_unranked.false)

pub returns : goal.returns
returns g c = sym (ends_all _ _ _ c.args.graph.admitted.ascending c.loop-i.i (omega arith) (λ l e. absurd (omega arith)) c.loop-i.invariant)
