-- Marking by sweeps in place: what a test and a sweep know of the marks that they leave. Assumes
-- nothing: these are definitions.
use Rattle.std.specs.Prelude.{ℕ, ◌<◌, ◌≡◌, true, List}
use Rattle.mark_confluence.specs.Internal.Rounds.{closes_at}
use Rattle.mark_confluence.specs.Internal.MarkSet.{is_marked, mark_set}

-- the hop at place i, if it is marked, closes with the set that the marks are
unfoldable pub ClosesIfMarked : List ℕ → ℕ → List ℕ → Type 0
ClosesIfMarked hs i ms = is_marked ms i ≡ true → closes_at hs (mark_set hs ms) i ≡ true

-- and so does each before place n
abbrev pub ClosesUpTo : List ℕ → ℕ → List ℕ → Type 0
ClosesUpTo hs n ms = (i : ℕ) → i < n → ClosesIfMarked hs i ms
