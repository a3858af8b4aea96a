-- What the entry returns, with a refusal and without. Assumes nothing.
use Prim.Native.Nat.{ℕ}
use mathlib.Core.Path.{◌≡◌}
use mathlib.Core.List.{List}
use borrow.Author.Tests.{eq-eqb, ne_eqb}
use Rattle.graph.specs.declared.Shape.{Shape}
use Rattle.graph.specs.declared.Answer.{Answer}
use Rattle.mark_entry.specs.Mark.{mark_answer}
use Rattle.mark_worklist.specs.Tests.{tests_of}
use Rattle.mark_entry_fast.specs.Fast.{mark_fast_of}
use Rattle.mark_entry_fast.specs.declared.Counted.{Counted}

module _ (sh : Shape) (hs out : List ℕ) {c : Answer} (e : c ≡ mark_answer sh hs 1 out) where
  pub counted_refused : (c.number ≡ 0 → ⊥) → ◌≡◌ {A = Counted} (record { answer = c; tests = 0 }) (mark_fast_of sh hs out)
  unfolding mark_fast_of
  counted_refused n = rw (e, ne_eqb (mark_answer sh hs 1 out).number 0 (rw e at n))

  pub counted_done : {t : ℕ} → c.number ≡ 0 → t ≡ tests_of hs → ◌≡◌ {A = Counted} (record { answer = c; tests = t }) (mark_fast_of sh hs out)
  unfolding mark_fast_of
  counted_done z d = rw (e, d, eq-eqb (mark_answer sh hs 1 out).number 0 (rw e at z))
