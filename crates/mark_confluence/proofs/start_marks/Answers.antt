-- The mark that is written at a place is its first mark. Assumes nothing.
use Rattle.std.proofs.Common.{◌≡◌, ℕ, true, false, cond, ◌&&◌, List, nat_eq, refl, ◌∙◌, arith}
use mir.Val.{bool_byte}
use Rattle.graph.specs.Hops.{label}
use Rattle.base_outputs.proofs.Front.{tabulate_none, tabulate_more, tabulate_done}
use Rattle.mark_confluence.specs.Marks.{mark_of, marks_of}
use Rattle.mark_confluence.specs.Internal.MarkSet.{every_pair}
use Rattle.mark_confluence.proofs.start_marks.Goals as goal

first_mark : (hs : List ℕ) (i : ℕ) → bool_byte (nat_eq (label hs i) 0) ≡ mark_of hs every_pair i
unfolding mark_of
first_mark hs i = elim (nat_eq (label hs i) 0) as (λ b. bool_byte b ≡ cond (b && true) 1 0) [ true ↦ refl | false ↦ refl ]

pub loop-i-init : goal.loop-i-init
loop-i-init c = tabulate_none _ _

pub loop-i-preserved : goal.loop-i-preserved
loop-i-preserved c = tabulate_more _ _ c.loop-i.invariant (c.from.ensures ∙ rw c.label_at.ensures (first_mark _ _)) (omega arith)

pub returns : goal.returns
unfolding marks_of
returns c = tabulate_done _ _ c.loop-i.invariant (omega arith) (omega arith)
