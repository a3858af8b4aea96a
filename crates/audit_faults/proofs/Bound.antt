-- The fault count fits: at most one for the initial states, one for each hop of graph 1, and one
-- for each pair of a hop of graph 2 and a state of graph 1. Assumes nothing.
use Prim.Native.Nat.{ℕ, ◌*◌, ◌≤◌}
use mathlib.Core.Bool.{Bool, true, false, cond, not}
use mathlib.Core.List.{List}
use native.Mathlib.Nat.{mul-le-mul}
use native.Mathlib.Omega.{arith}
use lib.Dec.{eqb}
use Rattle.base_bounded.specs.Quantifiers.{tally}
use Rattle.graph.specs.Hops.{count}
use Rattle.graph.specs.Answers.{most_states, most_hops}
use Rattle.graph_check.specs.Check.{Admitted}
use Rattle.graph.specs.declared.Shape.{Shape}
use Rattle.base_bounded.proofs.Quantifiers.{tally_within, total_most}
use Rattle.graph.specs.Map.{mapped}
use Rattle.audit_faults.specs.Faults.{initial_fault, preserved, lost_faults, unmatched, unmatched_faults, faults_of}

pub initial_most : (sh1 sh2 : Shape) (m : List ℕ) → initial_fault sh1 sh2 m ≤ 1
unfolding initial_fault
initial_most sh1 sh2 m = go (eqb (mapped m sh1.initial) sh2.initial) where
  go : (x : Bool) → cond x 0 1 ≤ 1
  go true = omega arith
  go false = omega arith

pub lost_most : (h1 h2 m : List ℕ) → lost_faults h1 h2 m ≤ count h1
unfolding lost_faults
lost_most h1 h2 m = tally_within (λ (i : ℕ). not (preserved h1 h2 m i)) (count h1)

pub unmatched_most : (sh1 : Shape) (h1 h2 m : List ℕ) → unmatched_faults sh1 h1 h2 m ≤ count h2 * sh1.states
unfolding unmatched_faults
unmatched_most sh1 h1 h2 m =
    total_most (λ (j : ℕ). tally sh1.states (unmatched sh1 h1 h2 m j)) sh1.states (count h2) (λ j l. tally_within (unmatched sh1 h1 h2 m j) sh1.states)

-- the third sum of admitted graphs
pub unmatched_few : (sh1 : Shape) (h1 h2 m : List ℕ) → sh1.states ≤ most_states → count h2 ≤ most_hops → unmatched_faults sh1 h1 h2 m ≤ most_hops * most_states
unmatched_few sh1 h1 h2 m l k =
    let pairs : count h2 * sh1.states ≤ most_hops * most_states = mul-le-mul k l in
    omega (arith, unmatched_most sh1 h1 h2 m)

-- "At most 4,198,401."
pub faults_most : (sh1 sh2 : Shape) (h1 h2 m : List ℕ) → Admitted sh1 h1 → Admitted sh2 h2 → faults_of sh1 sh2 h1 h2 m ≤ 4198401
unfolding faults_of
faults_most sh1 sh2 h1 h2 m a1 a2 =
    omega (arith, initial_most sh1 sh2 m, lost_most h1 h2 m, unmatched_few sh1 h1 h2 m a1.states_most a2.hops_most)
