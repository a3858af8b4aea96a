-- The first fault of a map m from graph 1 to graph 2 (document 02, wish 3), over the tests that the
-- three sums count. Assumes nothing: these are definitions.
use Rattle.std.specs.Prelude.{ℕ, ◌<◌, ◌≡◌, Bool, true, false, cond, not, ◌&&◌, ◌||◌, List, ◌⊎◌, ◌↔◌, eqb, ltb, Option, Some, None}
use Rattle.base_bounded.specs.Quantifiers.{any, least}
use Rattle.graph.specs.Hops.{count}
use Rattle.graph.specs.Map.{mapped}
use Rattle.graph.specs.declared.Shape.{Shape}
use Rattle.audit_faults.specs.Faults.{preserved, unmatched, faults_of}
use Rattle.audit_faults.specs.declared.Fault.{Fault}

-- "its kind 1, 2 or 3 in document 01's order, the hop's place in its graph, and the state for kind
-- 3"
abbrev pub fault : ℕ → ℕ → ℕ → Fault
fault k p s = record { kind = k; place = p; state = s }

-- "figures a kind lacks are 0, and all three with no fault"
abbrev pub no_fault : Fault
no_fault = fault 0 0 0

-- the fault, where it is one
abbrev pub named : Fault → Option Fault
named f = cond (eqb f.kind 0) None (Some f)

-- kind 1, the initial states
unfoldable pub first_initial : Shape → Shape → List ℕ → Fault
first_initial sh1 sh2 m = cond (eqb (mapped m sh1.initial) sh2.initial) no_fault (fault 1 0 0)

-- kind 2, the hops of graph 1, which "come in list order": the place of the first that is lost, or
-- the hop count
unfoldable pub lost_place : List ℕ → List ℕ → List ℕ → ℕ
lost_place h1 h2 m = least (count h1) (λ (i : ℕ). not (preserved h1 h2 m i))

unfoldable pub first_lost : List ℕ → List ℕ → List ℕ → Fault
first_lost h1 h2 m = cond (ltb (lost_place h1 h2 m) (count h1)) (fault 2 (lost_place h1 h2 m) 0) no_fault

-- kind 3, the hops of graph 2 "in list order, then states ascending": the place of the first that
-- is unmatched for some state, or the hop count, and the first such state
unfoldable pub unmatched_place : Shape → List ℕ → List ℕ → List ℕ → ℕ
unmatched_place sh1 h1 h2 m = least (count h2) (λ (j : ℕ). any sh1.states (unmatched sh1 h1 h2 m j))

unfoldable pub unmatched_state : Shape → List ℕ → List ℕ → List ℕ → ℕ
unmatched_state sh1 h1 h2 m = least sh1.states (unmatched sh1 h1 h2 m (unmatched_place sh1 h1 h2 m))

unfoldable pub first_unmatched : Shape → List ℕ → List ℕ → List ℕ → Fault
first_unmatched sh1 h1 h2 m = cond (ltb (unmatched_place sh1 h1 h2 m) (count h2)) (fault 3 (unmatched_place sh1 h1 h2 m) (unmatched_state sh1 h1 h2 m)) no_fault

-- the one, if it is a fault, else the other
abbrev pub or_else : Fault → Fault → Fault
or_else f g = cond (eqb f.kind 0) g f

-- "the audit also names the first fault": "within a kind" the orders above, so the kinds come first
unfoldable pub first_fault : Shape → Shape → List ℕ → List ℕ → List ℕ → Fault
first_fault sh1 sh2 h1 h2 m = or_else (first_initial sh1 sh2 m) (or_else (first_lost h1 h2 m) (first_unmatched sh1 h1 h2 m))

-- What that is to mean. f is a fault of the map: one of the three sums counts it
abbrev pub IsFault : Shape → Shape → List ℕ → List ℕ → List ℕ → Fault → Type 0
IsFault sh1 sh2 h1 h2 m f =
    ((mapped m sh1.initial ≡ sh2.initial → ⊥) × (f ≡ fault 1 0 0)) ⊎
    (((i : ℕ) × (i < count h1) × (preserved h1 h2 m i ≡ false) × (f ≡ fault 2 i 0)) ⊎
    ((j : ℕ) × (s : ℕ) × (j < count h2) × (s < sh1.states) × (unmatched sh1 h1 h2 m j s ≡ true) × (f ≡ fault 3 j s)))

-- f comes before g: by kind, then place, then state
unfoldable pub fault_before : Fault → Fault → Bool
fault_before f g =
    ltb f.kind g.kind ||
    (eqb f.kind g.kind && (ltb f.place g.place || (eqb f.place g.place && ltb f.state g.state)))

-- f is the first fault: kind 0 exactly when the count is 0, and then there is none; else it is a
-- fault, and no fault comes before it
pub record IsFirst (sh1 sh2 : Shape) (h1 h2 m : List ℕ) (f : Fault) : Type 0 where
  pub none : (f.kind ≡ 0) ↔ (faults_of sh1 sh2 h1 h2 m ≡ 0)
  pub none_at_all : f.kind ≡ 0 → (g : Fault) → IsFault sh1 sh2 h1 h2 m g → ⊥
  pub a_fault : (f.kind ≡ 0 → ⊥) → IsFault sh1 sh2 h1 h2 m f
  pub none_before : (g : Fault) → IsFault sh1 sh2 h1 h2 m g → fault_before g f ≡ false
