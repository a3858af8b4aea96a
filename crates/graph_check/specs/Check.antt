-- What document 01 admits as a graph (well-formedness), and the answers 0 to 4. Assumes nothing:
-- these are definitions.
use Rattle.std.specs.Prelude.{ℕ, ◌-◌, ◌%◌, ◌<◌, ◌≤◌, ◌≡◌, Bool, cond, not, ◌&&◌, ◌||◌, List, length, eqb, leb, ltb}
use Rattle.base_bounded.specs.Quantifiers.{least}
use Rattle.graph.specs.Hops.{numbers_a_hop, count, whole, from, label, to, hop_at}
use Rattle.graph.specs.Order.{before, Ascending}
use Rattle.graph.specs.Answers.{most_states, most_labels, most_hops, accepted, refused}
use Rattle.graph.specs.declared.Shape.{Shape}
use Rattle.graph.specs.declared.Answer.{Answer}

-- row 1: "state, label or hop count outside its limits, or flat list length not a multiple of
-- three"; by wish 2 "1 speaks of multiples of four"
unfoldable pub counts_fit : Shape → List ℕ → Bool
counts_fit sh hs =
    leb 1 sh.states && leb sh.states most_states && leb 1 sh.labels && leb sh.labels most_labels &&
    leb (count hs) most_hops && whole hs

-- row 3: "a hop's state or label not below its count"
unfoldable pub inside : Shape → List ℕ → ℕ → Bool
inside sh hs i = ltb (from hs i) sh.states && ltb (label hs i) sh.labels && ltb (to hs i) sh.states

unfoldable pub first_outside : Shape → List ℕ → ℕ
first_outside sh hs = least (count hs) (λ (i : ℕ). not (inside sh hs i))

-- row 4: "a hop not above the one before"; the first hop has none before it
unfoldable pub ascends_at : List ℕ → ℕ → Bool
ascends_at hs i = eqb i 0 || before (hop_at hs (i - 1)) (hop_at hs i)

unfoldable pub first_not_ascending : List ℕ → ℕ
first_not_ascending hs = least (count hs) (λ (i : ℕ). not (ascends_at hs i))

-- the answer of `check`: the first row that speaks, in ascending order
unfoldable pub check_of : Shape → List ℕ → Answer
check_of sh hs =
    cond (not (counts_fit sh hs)) (refused 1 0)
    (cond (leb sh.states sh.initial) (refused 2 0)
    (cond (ltb (first_outside sh hs) (count hs)) (refused 3 (first_outside sh hs))
    (cond (ltb (first_not_ascending hs) (count hs)) (refused 4 (first_not_ascending hs))
    accepted)))

-- the meaning of row 3: every state and every label is below its count
pub record InRange (sh : Shape) (hs : List ℕ) : Type 0 where
  pub from_in : (i : ℕ) → i < count hs → from hs i < sh.states
  pub label_in : (i : ℕ) → i < count hs → label hs i < sh.labels
  pub to_in : (i : ℕ) → i < count hs → to hs i < sh.states

-- the meaning of 0: "A graph is admitted when checks 1 to 4 pass it".
-- In the field: a well-formed transition system.
pub record Admitted (sh : Shape) (hs : List ℕ) : Type 0 where
  pub states_some : 1 ≤ sh.states
  pub states_most : sh.states ≤ most_states
  pub labels_some : 1 ≤ sh.labels
  pub labels_most : sh.labels ≤ most_labels
  pub hops_most : count hs ≤ most_hops
  pub whole_hops : length hs % numbers_a_hop ≡ 0
  pub initial_in : sh.initial < sh.states
  pub range : InRange sh hs
  pub ascending : Ascending hs
