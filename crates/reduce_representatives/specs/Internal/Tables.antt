-- What the parts of `reduce` hand to one another: marks, one a hop, and tables with one number a
-- state. Assumes nothing: these are definitions.
use Rattle.std.specs.Prelude.{ℕ, zero, suc, ◌<◌, ◌≤◌, ◌≡◌, Bool, true, cond, ◌&&◌, List, ◌⊎◌, length, get_or, set, eqb}
use Rattle.base_bounded.specs.Quantifiers.{tally}
use Rattle.graph.specs.Hops.{count, from, label, to}
use Rattle.graph.specs.Answers.{most_states}
use Rattle.base_fixpoint.specs.Pairs.{Pairs}
use Rattle.mark_confluence.specs.Internal.MarkSet.{is_marked}
use Rattle.reduce_representatives.specs.Representative.{next_state}

-- the marks of the set u stand in the list: 1 at its hops and only there
pub record Marks (hs : List ℕ) (u : Pairs) (ms : List ℕ) : Type 0 where
  pub capacity : count hs ≤ length ms
  pub marks : (i : ℕ) → i < count hs → is_marked ms i ≡ (eqb (label hs i) 0 && u (from hs i) (to hs i))

-- marks, one a hop, of which no visible hop has one
pub record SilentMarks (hs ms : List ℕ) : Type 0 where
  pub capacity : count hs ≤ length ms
  pub silent : (i : ℕ) → i < count hs → is_marked ms i ≡ true → label hs i ≡ 0

-- the table of next states with the hop at place i, if it is marked, as the first of its state
unfoldable pub with_next : List ℕ → List ℕ → ℕ → List ℕ → List ℕ
with_next hs ms i next = cond (is_marked ms i) (set next (from hs i) (to hs i)) next

-- the table leads from each state to itself
unfoldable pub IdentityTable : List ℕ → Type 0
IdentityTable next = (s : ℕ) → s < most_states → get_or next s 0 ≡ s

-- each hop leaves a state that the table has
unfoldable pub FromIn : List ℕ → Type 0
FromIn hs = (i : ℕ) → i < count hs → from hs i < most_states

-- the table says where the first hop of each state in u leads
unfoldable pub NextTable : List ℕ → Pairs → List ℕ → Type 0
NextTable hs u next = (s : ℕ) → s < most_states → get_or next s 0 ≡ next_state hs u s

-- the table leads from s to s
unfoldable pub is_fixed : List ℕ → ℕ → Bool
is_fixed next s = eqb (get_or next s 0) s

-- the state that s comes to by k steps of the table
unfoldable pub table_steps : List ℕ → ℕ → ℕ → ℕ
table_steps next zero s = s
table_steps next (suc k) s = table_steps next k (get_or next s 0)

-- the table of new numbers says, for each s up to one past the last state, how many states below s
-- lead to themselves
unfoldable pub NewNumbers : List ℕ → List ℕ → Type 0
NewNumbers next news = (s : ℕ) → s ≤ most_states → get_or news s 0 ≡ tally s (is_fixed next)

-- the number of the state that s comes to
unfoldable pub new_number : List ℕ → List ℕ → ℕ → ℕ → ℕ
new_number next news k s = get_or news (table_steps next k s) 0

-- the table leads from the first n states to these only
unfoldable pub ClosedTable : ℕ → List ℕ → Type 0
ClosedTable n next = (s : ℕ) → s < n → get_or next s 0 < n

-- along the table a rank falls, except at states that lead to themselves
unfoldable pub RankFalls : ℕ → (ℕ → ℕ) → List ℕ → Type 0
RankFalls n rank next = (s : ℕ) → s < n → (get_or next s 0 ≡ s) ⊎ (rank (get_or next s 0) < rank s)

-- walks by the table terminate: some rank of at most n falls along it
pub record TerminatingTable (n : ℕ) (next : List ℕ) : Type 0 where
  pub rank : ℕ → ℕ
  pub bound : (s : ℕ) → s < n → rank s ≤ n
  pub falls : RankFalls n rank next

-- the second table leads each of n states to where the first does, and any rank that falls along
-- the first falls along it: for some states the representative has been entered
pub record Compressed (n : ℕ) (next known : List ℕ) : Type 0 where
  pub long : length known ≡ length next
  pub closed : ClosedTable n known
  pub same : (s : ℕ) → s < n → table_steps known n s ≡ table_steps next n s
  pub falls : (rank : ℕ → ℕ) → RankFalls n rank next → RankFalls n rank known
