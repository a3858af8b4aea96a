-- Definition 2.4 is the theory's: document 01's branching bisimulations of two graphs are those of
-- `lts` between their hops, of pairs of states. Both say the same of a pair; only the order in
-- which a step's parts are named differs. Assumes nothing.
use Prim.Native.Nat.{ℕ}
use mathlib.Core.Path.{◌≡◌}
use mathlib.Core.List.{List}
use mathlib.Core.Logic.{◌⊎◌, inl, inr, ◌↔◌}
use Rattle.graph.specs.declared.Shape.{Shape}
use Rattle.lts.specs.Internal.Branching.{MatchedBy, Branching}
use Rattle.walk_silent.specs.Silent.{HopOf, Leads}
use Rattle.audit_entry.specs.Bisimulation.{StatePairs, BranchingBisimulation}

-- a step that answers, as document 01 names its parts and as the theory does
module _ (hs : List ℕ) (R : ℕ → ℕ → Type 0) (s n a t : ℕ) where
  abbrev Step : Type 0
  Step = ((a ≡ 0) × R t n) ⊎ ((u : ℕ) × (q : ℕ) × Leads hs n u × HopOf hs u a q × R s u × R t q)

  step_answers : Step → MatchedBy (HopOf hs) R s n a t
  step_answers (inl x) = inl x
  step_answers (inr (u, q, nu, h, x, y)) = inr (u, q, nu, x, h, y)

  answers_step : MatchedBy (HopOf hs) R s n a t → Step
  answers_step (inl x) = inl x
  answers_step (inr (u, q, nu, x, h, y)) = inr (u, q, nu, h, x, y)

pub branching_iff : (sh1 sh2 : Shape) (h1 h2 : List ℕ) (B : ℕ → ℕ → Type 0) →
    BranchingBisimulation sh1 sh2 h1 h2 B ↔ (StatePairs sh1 sh2 B × Branching (HopOf h1) (HopOf h2) B)
branching_iff sh1 sh2 h1 h2 B = (
  λ b. (
    b.pairs,
    record {
      there = λ s r p a t h. step_answers h2 B s r a t (b.there s r p a t h);
      again = λ r s p a q h. step_answers h1 (λ r s. B s r) r s a q (b.back s r p a q h);
    },
  ),
  λ (p, b). record {
    pairs = p;
    there = λ s r x a t h. answers_step h2 B s r a t (b.there s r x a t h);
    back = λ s r x a q h. answers_step h1 (λ r s. B s r) r s a q (b.again r s x a q h);
  },
)
