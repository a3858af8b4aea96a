-- What only private functions and proofs cite beside `Text`. Assumes nothing: these are
-- definitions.
use Rattle.std.specs.Prelude.{ℕ, ◌+◌, ◌-◌, ◌*◌, ◌≤◌, ◌≡◌, List, [], ◌∷◌, length}
use Rattle.base_outputs.specs.Internal.Output.{over_at}
use Rattle.report_text.specs.declared.Text.{Text}

-- the number that digits show, read from the left behind a number that stands before them
unfoldable pub digits_value : ℕ → List ℕ → ℕ
digits_value before [] = before
digits_value before (d ∷ ds) = digits_value (10 * before + (d - 48)) ds

-- the text fits into the buffer from place `at` on
pub record TextFits (at : ℕ) (text buffer : List ℕ) : Type 0 where
  pub fits : at + length text ≤ length buffer

-- the text was put into the buffer from place `at` on, over what was there and over nothing else;
-- `next` is the place behind it
pub record TextPut (old : List ℕ) (at : ℕ) (text : List ℕ) (next : ℕ) (new : List ℕ) : Type 0 where
  pub follows : next ≡ at + length text
  pub stands : new ≡ over_at at text old

-- the text fits into what is left of the buffer
pub record HasCapacity (t : Text) (text : List ℕ) : Type 0 where
  pub capacity : TextFits t.at text t.out.now

-- the text was written behind what was written before, into the same buffer
pub record TextWritten (old : Text) (text : List ℕ) (new : Text) : Type 0 where
  pub same_buffer : new.out.ghost_name ≡ old.out.ghost_name
  pub put : TextPut old.out.now old.at text new.at new.out.now
