-- Silent reachability and rings. Label 0 is silent. Assumes nothing: these are definitions.
use Rattle.std.specs.Prelude.{ℕ, ◌≡◌, Bool, true, cond, ◌&&◌, List, eqb, ltb}
use Rattle.base_bounded.specs.Quantifiers.{any, least}
use Rattle.graph.specs.Hops.{count, label, to, labelled, has}
use Rattle.graph.specs.Answers.{accepted, refused}
use Rattle.graph.specs.declared.Shape.{Shape}
use Rattle.graph.specs.declared.Answer.{Answer}
use Rattle.lts.specs.Star.{Star}
use Rattle.walk_reach.specs.Reach.{leads_by}

-- the graph's hops as a relation
abbrev pub HopOf : List ℕ → ℕ → ℕ → ℕ → Type 0
HopOf hs s a t = has hs s a t ≡ true

-- its silent hops, those labelled 0.
-- In the field: tau (internal) transitions.
abbrev pub SilentOf : List ℕ → ℕ → ℕ → Type 0
SilentOf hs s t = HopOf hs s 0 t

-- "s leads by zero or more silent hops to t"
-- In the field: tau-reachability, the reflexive transitive closure of tau.
abbrev pub Leads : List ℕ → ℕ → ℕ → Type 0
Leads hs = Star (SilentOf hs)

-- the set of the silent hops: the one at place i is silent
abbrev pub silent_at : List ℕ → ℕ → Bool
silent_at hs i = eqb (label hs i) 0

-- s leads to t by at most k silent hops
abbrev pub leads : List ℕ → ℕ → ℕ → ℕ → Bool
leads hs = leads_by hs (silent_at hs)

-- "A ring is a closed walk of one or more silent hops": s is on one when a silent hop of s leads to
-- a state that leads back to s.
-- In the field: a silent (tau) cycle.
abbrev pub OnRing : List ℕ → ℕ → Type 0
OnRing hs s = (t : ℕ) × SilentOf hs s t × Leads hs t s

-- the same by a walk of at most n silent hops, n the state count
unfoldable pub on_ring : List ℕ → ℕ → ℕ → Bool
on_ring hs n s = any (count hs) (λ (i : ℕ). labelled hs s 0 i && leads hs n (to hs i) s)

-- "lowest state on a ring", or the state count
unfoldable pub lowest_on_ring : Shape → List ℕ → ℕ
lowest_on_ring sh hs = least sh.states (on_ring hs sh.states)

-- row 5: "a ring exists"
unfoldable pub ring_answer : Shape → List ℕ → Answer
ring_answer sh hs = cond (ltb (lowest_on_ring sh hs) sh.states) (refused 5 (lowest_on_ring sh hs)) accepted
