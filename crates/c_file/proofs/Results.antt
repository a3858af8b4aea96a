-- The answer that stands in what read and write return is their answer, refused or not. Assumes
-- nothing.
use Prim.Native.Nat.{ℕ}
use mathlib.Core.Path.{◌≡◌, refl, sym}
use mathlib.Core.List.{List}
use borrow.Author.Tests.{eqb-true}
use lib.Dec.{eqb}
use Rattle.graph.specs.declared.Shape.{Shape}
use Rattle.file_read.specs.declared.Contents.{Contents}
use Rattle.file_write.specs.declared.Written.{Written}
use Rattle.file_read.specs.Read.{read_answer, read_of}
use Rattle.file_write.specs.Write.{write_answer, write_of}
use Rattle.file_read.proofs.Entry.{read_accepts}
use Rattle.file_write.proofs.Given.{write_accepts}
use Rattle.c_answer.proofs.Answers.{either_answer}

pub found_answer : (b : List ℕ) (capacity : ℕ) → (read_of b capacity).answer ≡ read_answer b capacity
unfolding read_of
found_answer b capacity =
    either_answer (λ (c : Contents). c.answer) (eqb (read_answer b capacity).number 0) _ _ (λ e. sym (read_accepts b capacity (eqb-true _ _ e)).0) refl

pub written_answer : (sh : Shape) (hs ns : List ℕ) (capacity : ℕ) → (write_of sh hs ns capacity).answer ≡ write_answer sh hs ns capacity
unfolding write_of
written_answer sh hs ns capacity =
    either_answer (λ (w : Written). w.answer) (eqb (write_answer sh hs ns capacity).number 0) _ _
    (λ e. sym (write_accepts sh hs ns capacity (eqb-true _ _ e)).0) refl
