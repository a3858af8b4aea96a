-- The limits of document 01, and answers: the accepted one, refusals, and which of two is returned.
-- Assumes nothing: these are definitions.
use Rattle.std.specs.Prelude.{ℕ, cond, eqb, leb, Result, Ok, Err}
use Rattle.graph.specs.Hops.{number_place}
use Rattle.graph.specs.declared.Answer.{Answer}
use Rattle.graph.specs.declared.Refusal.{Refusal}
use Rattle.graph.specs.declared.Refusal.TheVariants.{Counts, Initial, HopOutside, HopNotAscending, Ring, OutputTooShort, LabelCounts, MapEntry, NotSilent, TooManyRounds, FileTooShort, FileBits, FileTooLong, BadName, NoSense}

-- "A graph has a state count of 1 to 1,024, a label count of 1 to 1,024, .. and 0 to 4,096 hops"
abbrev pub most_states : ℕ
most_states = 1024

abbrev pub most_labels : ℕ
most_labels = 1024

abbrev pub most_hops : ℕ
most_hops = 4096

-- how many numbers the flat list of a graph then has
abbrev pub most_numbers : ℕ
most_numbers = number_place most_hops

-- "An answer holds number, table .. and place": accepted is 0, table 1, place 0
abbrev pub accepted : Answer
accepted = record { number = 0; table = 1; place = 0 }

abbrev pub refused : ℕ → ℕ → Answer
refused n p = record { number = n; table = 1; place = p }

-- the same answer, of another table ("2 only for graph 2 of the audit")
abbrev pub in_table : ℕ → Answer → Answer
in_table t a = record { number = a.number; table = t; place = a.place }

-- "unless an earlier check speaks": the first answer if it refuses, else the next
abbrev pub and_then : Answer → Answer → Answer
and_then a b = cond (eqb a.number 0) b a

-- row 6, for an output of capacity r that needs n elements
abbrev pub capacity_answer : ℕ → ℕ → Answer
capacity_answer n r = cond (leb n r) accepted (refused 6 0)

-- "If the answer is an enum, a definition gives this paper's number and values for each of its
-- cases": the table of answers
abbrev pub refusal_answer : Refusal → Answer
refusal_answer Counts = refused 1 0
refusal_answer Initial = refused 2 0
refusal_answer (HopOutside i) = refused 3 i
refusal_answer (HopNotAscending i) = refused 4 i
refusal_answer (Ring s) = refused 5 s
refusal_answer OutputTooShort = refused 6 0
refusal_answer LabelCounts = refused 7 0
refusal_answer (MapEntry p) = refused 8 p
refusal_answer NotSilent = refused 9 0
refusal_answer TooManyRounds = refused 10 0
refusal_answer (FileTooShort n) = refused 11 n
refusal_answer FileBits = refused 12 0
refusal_answer (FileTooLong b) = refused 13 b
refusal_answer (BadName b) = refused 14 b
refusal_answer NoSense = refused 19 0

-- the answer of an entry that returns something, or refuses
abbrev pub answer_of : {A : Type 0} → Result A Refusal → Answer
answer_of (Ok x) = accepted
answer_of (Err r) = refusal_answer r
