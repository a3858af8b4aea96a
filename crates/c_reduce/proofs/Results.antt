-- The answer that stands in what reduce returns is its answer, refused or not. Assumes nothing.
use Prim.Native.Nat.{ℕ}
use mathlib.Core.Path.{◌≡◌, refl}
use mathlib.Core.List.{List}
use lib.Dec.{eqb}
use Rattle.graph.specs.declared.Shape.{Shape}
use Rattle.reduce_entry.specs.declared.Reduction.{Reduction}
use Rattle.reduce_entry.specs.Reduce.{reduce_answer, reduce_of}
use Rattle.c_answer.proofs.Answers.{either_answer}

pub reduced_answer : (sh : Shape) (hs : List ℕ) (k map_capacity short_capacity : ℕ) →
    (reduce_of sh hs k map_capacity short_capacity).answer ≡ reduce_answer sh hs k map_capacity short_capacity
unfolding reduce_of
reduced_answer sh hs k m s = either_answer (λ (r : Reduction). r.answer) (eqb (reduce_answer sh hs k m s).number 0) _ _ (λ _. refl) refl
