-- What an output (the caller's slice) holds afterwards: a list written over the front of what was
-- there, over a part of it, or, with a refusal, not at all. The entries that write marks, a map,
-- hops, a file or text state by these what they write. Assumes nothing: these are definitions.
use Rattle.std.specs.Prelude.{ℕ, cond, List, ◌++◌, length, drop, eqb}

-- the list new at the front, and past it what was there
abbrev pub on_front : {A : Type 0} → List A → List A → List A
on_front new old = new ++ drop (length new) old

-- an entry's output, where n is the number that it answers: "A refusal leaves all lent elements
-- untouched"; "Acceptance writes the named elements and none past them"
abbrev pub written : ℕ → List ℕ → List ℕ → List ℕ
written n new old = cond (eqb n 0) (on_front new old) old
