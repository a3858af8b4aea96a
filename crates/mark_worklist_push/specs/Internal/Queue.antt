-- The worklist: the queue of the hops that the next round tests, and what is pushed on it for a hop
-- that fell. No contract of an entry cites this. Assumes nothing: these are definitions.
use Rattle.std.specs.Prelude.{ℕ, ◌<◌, ◌≤◌, ◌≡◌, Bool, true, false, List, ◌⊎◌, length, get_or, take, All, Contains}
use Rattle.base_bounded.specs.Quantifiers.{tally}
use Rattle.graph.specs.Hops.{count, from, label, to, has}
use Rattle.graph_predecessors.specs.Internal.PredecessorIndex.{PredecessorStarts, PredecessorPlaces}
use Rattle.mark_confluence.specs.Rounds.{FirstPoint}
use Rattle.mark_confluence.specs.Internal.MarkSet.{is_marked}
use Rattle.mark_worklist_push.specs.declared.Worklist.{Worklist}

-- the tables of a hop list by which the hops into a state are found: where they begin, and their
-- places
pub record Tables (hs bs ps : List ℕ) : Type 0 where
  pub begins : PredecessorStarts hs bs
  pub filled : PredecessorPlaces hs (count hs) ps

-- ks are the places of the hops into s
pub record PlacesInto (hs : List ℕ) (s : ℕ) (ks : List ℕ) : Type 0 where
  pub each : All (λ k. (k < count hs) × (to hs k ≡ s)) ks
  pub all : (k : ℕ) → k < count hs → to hs k ≡ s → Contains ks k

-- the flag at place i is set
abbrev pub is_set : List Bool → ℕ → Bool
is_set fs i = get_or fs i false

-- the states that a marked hop leaves are flagged: none leaves another
unfoldable pub Leaving : List ℕ → List ℕ → List Bool → Type 0
Leaving hs ms ls = (i : ℕ) → i < count hs → is_marked ms i ≡ true → is_set ls (from hs i) ≡ true

-- the queue of a worklist
abbrev pub queued : Worklist → List ℕ
queued w = take w.len w.places.now

-- the queue is places of hops, each once, and just those whose flag is set
pub record Queue (hs : List ℕ) (w : Worklist) : Type 0 where
  pub flags : count hs ≤ length w.flags.now
  pub capacity : count hs ≤ length w.places.now
  pub counted : w.len ≡ tally (count hs) (is_set w.flags.now)
  pub each : All (λ i. (i < count hs) × (is_set w.flags.now i ≡ true)) (queued w)
  pub all : (i : ℕ) → i < count hs → is_set w.flags.now i ≡ true → Contains (queued w) i

-- the arrays of a worklist are those of another
pub record SameArrays (old new : Worklist) : Type 0 where
  pub flags : new.flags.ghost_name ≡ old.flags.ghost_name
  pub places : new.places.ghost_name ≡ old.places.ghost_name

-- the hop at place i is silent, marked, and one of W
pub record Wanted (hs ms : List ℕ) (W : ℕ → Type 0) (i : ℕ) : Type 0 where
  pub silent : label hs i ≡ 0
  pub marked : is_marked ms i ≡ true
  pub inside : W i

-- the wanted hops of W are pushed on the queue, and no others
pub record Pushed (hs ms : List ℕ) (W : ℕ → Type 0) (old new : Worklist) : Type 0 where
  pub arrays : SameArrays old new
  pub queue : Queue hs new
  pub kept : (i : ℕ) → i < count hs → is_set old.flags.now i ≡ true → is_set new.flags.now i ≡ true
  pub came : (i : ℕ) → i < count hs → is_set new.flags.now i ≡ true → (is_set old.flags.now i ≡ true) ⊎ Wanted hs ms W i
  pub all : (i : ℕ) → i < count hs → Wanted hs ms W i → is_set new.flags.now i ≡ true

-- the place i alone
abbrev pub OnlyPlace : ℕ → ℕ → Type 0
OnlyPlace i x = x ≡ i

-- the places of hops from s1 to s2
abbrev pub Joining : List ℕ → ℕ → ℕ → ℕ → Type 0
Joining hs s1 s2 x = (from hs x ≡ s1) × (to hs x ≡ s2)

-- the same from where the hop at place j begins to where the one at place m does, if the two have
-- one label
abbrev pub Like : List ℕ → ℕ → ℕ → ℕ → Type 0
Like hs j m x = (label hs m ≡ label hs j) × Joining hs (from hs j) (from hs m) x

-- the places of hops that leave s1, as the hop to try at place j does, and end in a state that has
-- a hop of its label to s4, the end of the fallen hop at place p
abbrev pub AnsweredTo : List ℕ → ℕ → ℕ → ℕ → Type 0
AnsweredTo hs j p x = (from hs x ≡ from hs j) × (has hs (to hs x) (label hs j) (to hs p) ≡ true)

-- the same with s4 = s2 too: document 01's first point
abbrev pub Trying : List ℕ → ℕ → ℕ → ℕ → Type 0
Trying hs j p x = (from hs x ≡ from hs j) × FirstPoint hs (to hs x) (label hs j) (to hs p)

-- the places of hops that have a hop to try, to s3, and an s4, by the first point, with s3 to s4
-- the hop at place p
abbrev pub ClosedBy : List ℕ → ℕ → ℕ → Type 0
ClosedBy hs p x = (a : ℕ) × (has hs (from hs x) a (from hs p) ≡ true) × FirstPoint hs (to hs x) a (to hs p)

-- the same for one of the hops at the places ps
abbrev pub ClosedByAny : List ℕ → List ℕ → ℕ → Type 0
ClosedByAny hs ps x = (p : ℕ) × Contains ps p × ClosedBy hs p x

-- the place i alone, if the end of the hop at place p is an s4 of its end for the label of the hop
-- at place j
abbrev pub Asked : List ℕ → ℕ → ℕ → ℕ → ℕ → Type 0
Asked hs j p i x = (x ≡ i) × FirstPoint hs (to hs x) (label hs j) (to hs p)

-- r is whether s4 is an s4 of s2 for the label a
pub record DecidesPoint (hs : List ℕ) (s2 a s4 : ℕ) (r : Bool) : Type 0 where
  pub yes : r ≡ true → FirstPoint hs s2 a s4
  pub no : r ≡ false → FirstPoint hs s2 a s4 → ⊥

-- ps are places of hops
abbrev pub PlacesBelow : List ℕ → List ℕ → Type 0
PlacesBelow hs ps = All (λ p. p < count hs) ps

-- no flag is set
unfoldable pub Unset : List ℕ → List Bool → Type 0
Unset hs fs = (i : ℕ) → i < count hs → is_set fs i ≡ false
