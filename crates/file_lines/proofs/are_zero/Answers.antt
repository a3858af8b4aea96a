-- `file_lines::are_zero`: the test of each number of the range is that of the definition. Assumes
-- nothing.
use mathlib.Core.Path.{◌≡◌, refl}
use native.Mathlib.Omega.{arith}
use mathlib.Core.Bool.{true, false}
use borrow.Author.Rules.{rules}
use borrow.Author.Tests.{tests}
use Rattle.std.proofs.lemmas.Iterator.{cases_from_all, YieldsList-from_range}
use Rattle.file_lines.specs.LineField.{zero_lines}
use Rattle.file_lines.proofs.Laws.{zero_line}
use Rattle.file_lines.proofs.Ranges.{all_range}
use Rattle.file_lines.proofs.are_zero.Goals as goal

pub returns : goal.returns
unfolding zero_lines
returns c =
    let a = c.args in
    all_range (zero_line a.file.now a.at) a.n c.all.result
    (cases_from_all _ _ _ (λ i. zero_line a.file.now a.at i ≡ true) (λ i. zero_line a.file.now a.at i ≡ false) c.all.ensures.ran (YieldsList-from_range 0 a.n a.n refl (omega arith))
    (λ x q k. search (rules, tests)) (λ x q k. search (rules, tests)))
