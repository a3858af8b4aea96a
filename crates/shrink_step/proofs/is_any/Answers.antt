-- `shrink_step::is_any` meets its contract: what the chain asks of a list is asked below a bound.
-- Assumes nothing.
use Rattle.std.proofs.Common.{◌∙◌, rules, eqb, tests}
use Rattle.std.proofs.lemmas.Iterator.Search.{any_from_yields_List}
use Rattle.std.proofs.lemmas.Iterator.{YieldsList-from_slice}
use Rattle.shrink_step.proofs.Marking.{any_whole}
use Rattle.shrink_step.proofs.is_any.Goals as goal

pub returns : goal.returns
returns c =
    any_from_yields_List (λ x. eqb x 1) _ _ _ c.any.ensures.ran (YieldsList-from_slice c.args.marks.now cc) (λ x b q k. search (rules, tests)) ∙
    any_whole c.args.marks.now
