-- Classes and representatives (normal forms; document 01 "Reducing"; SEN-R0123, section 4), along
-- any set u of silent hops; document 01's is the marked set. Assumes nothing: these are
-- definitions.
use Rattle.std.specs.Prelude.{ℕ, zero, suc, ◌≡◌, Bool, cond, not, ◌&&◌, List, eqb}
use Rattle.base_bounded.specs.Quantifiers.{any, least, tally}
use Rattle.graph.specs.Hops.{count, from, label, to}
use Rattle.graph.specs.declared.Shape.{Shape}
use Rattle.lts.specs.Star.{Joined}
use Rattle.lts.specs.Sense.{Normal}
use Rattle.base_fixpoint.specs.Pairs.{Pairs, In}

-- "A class is a set of states joined by marked hops taken either way." "each class has exactly one
-- state that no marked hop leaves: its representative"
-- In the field: the normal form under marked hops, one for each class.
pub record IsRepresentative (u : Pairs) (s r : ℕ) : Type 0 where
  pub joined : Joined (In u) s r
  pub rests : Normal (In u) r
  pub only : (q : ℕ) → Joined (In u) s q → Normal (In u) q → q ≡ r

-- the hop at place i is one of u from s
unfoldable pub marked_from : List ℕ → Pairs → ℕ → ℕ → Bool
marked_from hs u s i = eqb (from hs i) s && (eqb (label hs i) 0 && u (from hs i) (to hs i))

-- no hop of u leaves s
unfoldable pub is_normal : List ℕ → Pairs → ℕ → Bool
is_normal hs u s = not (any (count hs) (marked_from hs u s))

-- where the first hop of s in u leads; s itself where it has none
unfoldable pub next_state : List ℕ → Pairs → ℕ → ℕ
next_state hs u s = cond (is_normal hs u s) s (to hs (least (count hs) (marked_from hs u s)))

-- the state that s comes to by k such hops
unfoldable pub after_steps : List ℕ → Pairs → ℕ → ℕ → ℕ
after_steps hs u zero s = s
after_steps hs u (suc k) s = after_steps hs u k (next_state hs u s)

-- the representative of s: without rings it is reached within as many hops as there are states
unfoldable pub rep_of : Shape → List ℕ → Pairs → ℕ → ℕ
rep_of sh hs u s = after_steps hs u sh.states s

-- "Representatives are renumbered 0, 1, 2 in ascending old order": a representative's new number is
-- how many stand below it
unfoldable pub new_of : List ℕ → Pairs → ℕ → ℕ
new_of hs u r = tally r (is_normal hs u)

-- "The map gives each old state the new number of its representative."
-- In the field: a representation map.
unfoldable pub map_of : Shape → List ℕ → Pairs → ℕ → ℕ
map_of sh hs u s = new_of hs u (rep_of sh hs u s)
