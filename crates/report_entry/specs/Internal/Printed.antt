-- What only private functions and proofs cite beside `Report`. Assumes nothing: these are
-- definitions.
use Rattle.std.specs.Prelude.{ℕ, ◌≡◌, List, Result, Ok, Err}
use Rattle.graph.specs.Answers.{refusal_answer}
use Rattle.graph.specs.declared.Refusal.{Refusal}
use Rattle.report_text.specs.declared.Text.{Text}
use Rattle.report_text.specs.Internal.Text.{TextWritten}
use Rattle.report_rows.specs.Rows.{refusal_of}

-- the text was written; or nothing was, and the text is the line of the refusal
abbrev pub PrintedOr : {A : Type 0} → Result A Refusal → Text → List ℕ → Text → Type 0
PrintedOr (Ok x) old text new = TextWritten old text new
PrintedOr (Err r) old text new = (refusal_of (refusal_answer r) ≡ text) × (new ≡ old)
