-- The answer that stands in what shrink returns is that of reduce, refused or not. Assumes nothing.
use Prim.Native.Nat.{ℕ}
use mathlib.Core.Path.{◌≡◌, refl}
use mathlib.Core.List.{List}
use lib.Dec.{eqb}
use Rattle.graph.specs.declared.Shape.{Shape}
use Rattle.reduce_entry.specs.Reduce.{reduce_answer}
use Rattle.shrink_entry.specs.declared.Shrinking.{Shrinking}
use Rattle.shrink_entry.specs.Shrink.{shrink_of}
use Rattle.c_answer.proofs.Answers.{either_answer}

pub shrunk_answer : (sh : Shape) (hs : List ℕ) (k map_capacity short_capacity : ℕ) →
    (shrink_of sh hs k map_capacity short_capacity).answer ≡ reduce_answer sh hs k map_capacity short_capacity
unfolding shrink_of
shrunk_answer sh hs k m s = either_answer (λ (r : Shrinking). r.answer) (eqb (reduce_answer sh hs k m s).number 0) _ _ (λ _. refl) refl
