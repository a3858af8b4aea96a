-- Reduction by tau-confluence, and the maps between graphs that keep branching bisimilarity.
-- Assumes nothing: these are definitions.
use Rattle.std.specs.Prelude.{ℕ, ◌<◌, ◌≡◌, ◌⊎◌}
use Rattle.lts.specs.Star.{Star}
use Rattle.lts.specs.Sense.{Normal, Weak}
use Rattle.lts.specs.Internal.Sense.{Silent}

-- U is a weakly confluent set of silent hops, and a rank that falls along silent hops says that no
-- ring of them is there
pub record Confluent (Hop : ℕ → ℕ → ℕ → Type 0) (U : ℕ → ℕ → Type 0) : Type 0 where
  pub silent : (s t : ℕ) → U s t → Hop s 0 t
  pub weak : Weak Hop U
  pub rank : ℕ → ℕ
  pub falls : (s t : ℕ) → Hop s 0 t → rank t < rank s

-- each state s comes by hops of U to `rep s`, and none leaves that: `rep s` is the representative
-- of s
pub record NormalForms (U : ℕ → ℕ → Type 0) (rep : ℕ → ℕ) : Type 0 where
  pub down : (s : ℕ) → Star U s (rep s)
  pub rest : (s : ℕ) → Normal U (rep s)

-- a hop of U that leaves s, or that none does
abbrev pub StepOrNormal : (ℕ → ℕ → Type 0) → ℕ → Type 0
StepOrNormal U s = ((t : ℕ) × U s t) ⊎ Normal U s

-- the graph that is left: the hops of a state, with the representative of each one's end for its
-- end
abbrev pub QuotientHop : (ℕ → ℕ → ℕ → Type 0) → (ℕ → ℕ) → ℕ → ℕ → ℕ → Type 0
QuotientHop Hop rep n a m = (t : ℕ) × Hop n a t × (rep t ≡ m)

-- silent hops lead from s to a state u of the same image, and from there a hop labelled a to one
-- whose image is q
abbrev pub MatchedBack : (ℕ → ℕ → ℕ → Type 0) → (ℕ → ℕ) → ℕ → ℕ → ℕ → Type 0
MatchedBack Hop f s a q = (u : ℕ) × (t : ℕ) × Star (Silent Hop) s u × (f u ≡ f s) × Hop u a t × (f t ≡ q)

-- the map f from the states D of graph 1 to graph 2: each hop of graph 1 is kept (`fore`), and no
-- hop of graph 2 from an image is unmatched in graph 1 (`back`)
pub record Reduces (D : ℕ → Type 0) (Hop1 Hop2 : ℕ → ℕ → ℕ → Type 0) (f : ℕ → ℕ) : Type 0 where
  pub fore : (s a t : ℕ) → Hop1 s a t → ((a ≡ 0) × (f s ≡ f t)) ⊎ Hop2 (f s) a (f t)
  pub back : (s a q : ℕ) → D s → Hop2 (f s) a q → ((a ≡ 0) × (f s ≡ q)) ⊎ MatchedBack Hop1 f s a q
