-- `file_lines::has_line`: the test of each number of the range is that of the definition. Assumes
-- nothing.
use mathlib.Core.Path.{◌≡◌}
use native.Mathlib.Omega.{arith}
use mathlib.Core.Bool.{true, false}
use borrow.Author.Rules.{rules}
use borrow.Author.Tests.{tests}
use Rattle.std.proofs.lemmas.Iterator.{cases_from_any, YieldsList-from_range}
use Rattle.graph.specs.Hops.{count}
use Rattle.file_lines.specs.LineField.{any_line}
use Rattle.file_lines.proofs.Laws.{lined}
use Rattle.file_lines.proofs.Ranges.{any_range}
use Rattle.file_lines.proofs.has_line.Goals as goal

pub returns : goal.returns
unfolding any_line
returns c =
    let hs = c.args.hops.now in
    any_range (lined hs) (count hs) c.any.result
    (cases_from_any _ _ _ (λ i. lined hs i ≡ true) (λ i. lined hs i ≡ false) c.any.ensures.ran (YieldsList-from_range 0 (count hs) (count hs) (search rules) (omega arith))
    (λ x q k. search (rules, tests)) (λ x q k. search (rules, tests)))
