-- What a reduction leaves, with its states numbered anew. Assumes nothing: this is a definition.
use Rattle.std.specs.Prelude.{ℕ, ◌≡◌}

-- graph 2 has the hops of the representatives of graph 1, and f leads from graph 1 to it: states of
-- one representative, and no others, get one number
pub record Renumbered (Hop1 : ℕ → ℕ → ℕ → Type 0) (rep : ℕ → ℕ) (Hop2 : ℕ → ℕ → ℕ → Type 0) (f : ℕ → ℕ) : Type 0 where
  pub same : (s : ℕ) → f (rep s) ≡ f s
  pub other : (s t : ℕ) → f s ≡ f t → rep s ≡ rep t
  pub fore : (s a t : ℕ) → Hop1 (rep s) a t → Hop2 (f s) a (f t)
  pub back : (s a q : ℕ) → Hop2 (f s) a q → (t : ℕ) × Hop1 (rep s) a t × (f t ≡ q)
