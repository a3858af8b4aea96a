-- Find, of document 02: "one search that tells whether a graph has a given hop should also return
-- its place, or where it would stand". Assumes nothing: these are definitions.
use Rattle.std.specs.Prelude.{ℕ, ◌<◌, ◌≤◌, ◌≡◌, true, false, cond, ◌&&◌, List, ◌⊎◌, eqb, Result, Ok, Err}
use Rattle.base_bounded.specs.Quantifiers.{tally}
use Rattle.graph.specs.Hops.{count, hop_of, hop_at, is, has}
use Rattle.graph.specs.Order.{before}
use Rattle.graph_check.specs.Check.{check_of}
use Rattle.graph.specs.Answers.{accepted, refusal_answer}
use Rattle.graph.specs.declared.Refusal.{Refusal}
use Rattle.graph.specs.declared.Shape.{Shape}
use Rattle.graph_find.specs.declared.Finding.{Finding}

-- "where it would stand": how many hops of the list come before the hop s, a, t
unfoldable pub hops_before : List ℕ → ℕ → ℕ → ℕ → ℕ
hops_before hs s a t = tally (count hs) (λ (i : ℕ). before (hop_at hs i) (hop_of s a t))

-- the figures of what `find` returns: where the hop stands, where it would stand, or a refusal
abbrev pub finding_of : Result (Result ℕ ℕ) Refusal → Finding
finding_of (Ok (Ok at)) = record { answer = accepted; found = 1; place = at }
finding_of (Ok (Err gap)) = record { answer = accepted; found = 0; place = gap }
finding_of (Err r) = record { answer = refusal_answer r; found = 0; place = 0 }

-- check's answer; 1 where the graph has the hop; and how many hops come before it, which is its
-- place where it has it. "With any number but 0 every other figure in the answer is 0"
unfoldable pub find_of : Shape → List ℕ → ℕ → ℕ → ℕ → Finding
find_of sh hs s a t = record {
  answer = check_of sh hs;
  found = cond (eqb (check_of sh hs).number 0 && has hs s a t) 1 0;
  place = cond (eqb (check_of sh hs).number 0) (hops_before hs s a t) 0;
}

-- what is found of the hop s, a, t in an admitted graph, said without counting
pub record Finds (sh : Shape) (hs : List ℕ) (s a t : ℕ) (f : Finding) : Type 0 where
  pub has_found : f.found ≡ cond (has hs s a t) 1 0
  pub found_within : f.found ≡ 1 → f.place < count hs
  pub found_there : f.found ≡ 1 → is hs s a t f.place ≡ true
  pub place_within : f.place ≤ count hs
  pub below_before : (i : ℕ) → i < f.place → before (hop_at hs i) (hop_of s a t) ≡ true
  pub above_not : (i : ℕ) → f.place ≤ i → i < count hs → before (hop_at hs i) (hop_of s a t) ≡ false
  pub outside_not : (sh.states ≤ s) ⊎ ((sh.labels ≤ a) ⊎ (sh.states ≤ t)) → f.found ≡ 0
