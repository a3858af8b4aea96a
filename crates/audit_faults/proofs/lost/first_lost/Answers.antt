-- `audit_faults::lost::first_lost` meets its contract: the chain finds the least place that is
-- lost. Assumes nothing.
use Rattle.std.proofs.Common.{◌≡◌, ◌∙◌, ◌+◌, sym, ap, rules, tests, arith, ℕ}
use Rattle.std.proofs.lemmas.Iterator.{YieldsList-from_range}
use Rattle.std.proofs.lemmas.Iterator.Adapters.{option_map_id}
use Rattle.std.proofs.lemmas.Iterator.Search.{find_from_yields_List}
use Rattle.base_bounded.specs.Quantifiers.{least}
use Rattle.base_bounded.proofs.Quantifiers.{least_none}
use Rattle.graph.specs.Hops.{count}
use Rattle.audit_faults.specs.First.{lost_place}
use Rattle.graph_check.specs.Internal.Places.{place_below}
use Rattle.audit_faults.proofs.Found.{find_least}
use Rattle.audit_faults.proofs.Preserved.{lost}
use Rattle.audit_faults.proofs.lost.first_lost.Goals as goal

pub returns : goal.returns
unfolding lost_place
returns c =
    let m = c.args.located.mapped in
    let n = c.hop_count.result in
    let test = lost m.hops1.now m.hops2.now m.map.now in
    let whole : 0 + n ≡ count m.hops1.now = omega arith in
    sym (option_map_id c.find.result) ∙
    find_from_yields_List test _ _ _ c.find.ensures.ran (YieldsList-from_range 0 n n (cc) (omega arith)) (λ x b q k. search (rules, tests)) ∙
    find_least test 0 n (least_none test) ∙ ap (λ (i : ℕ). place_below i (least i test)) whole
