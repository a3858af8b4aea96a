-- The answer slice is too short, or the answer's numbers stand at its front and the figures behind
-- them. Assumes nothing.
use mathlib.Core.Path.{refl, sym, ◌∙◌}
use mathlib.Core.List.{[]}
use native.Mathlib.Omega.{arith}
use Rattle.base_outputs.proofs.Front.{front_next}
use Rattle.c_answer.specs.Numbers.{numbers_of}
use Rattle.c_answer.proofs.AnswerAfter.{long_answer_after}
use Rattle.c_answer.proofs.put_answer.Goals as goal

pub returns-clause-figures : goal.returns-clause-figures
returns-clause-figures c =
    let s = c.args in
    let e = front_next s.out.now (numbers_of s.a []) s.figures.now (rw (c.from.ensures, c.from-2.ensures) at c.put_front.ensures) c.put_at.ensures refl in
    e ∙ sym (long_answer_after _ (numbers_of s.a s.figures.now) _ (omega arith) c.if-out-n.false)
