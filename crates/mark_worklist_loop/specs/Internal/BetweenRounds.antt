-- The invariant of the worklist marking between two rounds. No contract of an entry cites this.
-- Assumes nothing: these are definitions.
use Rattle.std.specs.Prelude.{ℕ, suc, ◌≡◌, List}
use Rattle.base_outputs.specs.Output.{on_front}
use Rattle.mark_confluence.specs.Rounds.{survives}
use Rattle.mark_confluence.specs.Marks.{marks_of}
use Rattle.mark_worklist.specs.Tests.{tests_up_to}
use Rattle.mark_worklist_round.specs.Internal.Round.{FallenIn}

-- after k + 1 rounds: the marks are those of the hops that survive them, fl are those that fell in
-- the last, and t tests were made
pub record After (hs : List ℕ) (k : ℕ) (ms out fl : List ℕ) (t : ℕ) : Type 0 where
  pub marks : ms ≡ on_front (marks_of hs (survives hs (suc k))) out
  pub falls : FallenIn hs k fl
  pub tests : t ≡ tests_up_to hs (suc k)

-- the same after some number of rounds
abbrev pub AfterSome : List ℕ → List ℕ → List ℕ → List ℕ → ℕ → Type 0
AfterSome hs ms out fl t = (k : ℕ) × After hs k ms out fl t
