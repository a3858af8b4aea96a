-- The chain asks each hop of the list, as the definition does. Assumes nothing.
use Rattle.std.proofs.Common.{◌≡◌, ◌∙◌, ◌+◌, ap, rules, tests, arith, ℕ}
use Rattle.std.proofs.lemmas.Iterator.{YieldsList-from_range}
use Rattle.std.proofs.lemmas.Iterator.Search.{any_from_yields_List}
use Rattle.base_bounded.specs.Quantifiers.{any}
use Rattle.base_bounded.proofs.Quantifiers.{any_none}
use Rattle.graph.specs.Hops.{count}
use Rattle.walk_rings.specs.Internal.Ring.{leads_back_at}
use Rattle.walk_rings.proofs.Back.{any_range}
use Rattle.walk_rings.proofs.returns.Goals as goal

pub returns : goal.returns
returns c =
    let a = c.args in
    let n = c.hop_count.result in
    let test = leads_back_at a.graph.index.hops.now a.seen.now a.s.0 in
    let whole : 0 + n ≡ count a.graph.index.hops.now = omega arith in
    any_from_yields_List test _ _ _ c.any.ensures.ran (YieldsList-from_range 0 n n (cc) (omega arith)) (λ x b q k. search (rules, tests)) ∙
    any_range test 0 n (any_none test) ∙ ap (λ (i : ℕ). any i test) whole
