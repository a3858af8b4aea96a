-- What only private functions and proofs cite beside `Encode`. Assumes nothing: this is a
-- definition.
use Rattle.std.specs.Prelude.{ℕ, ◌≤◌, List, length}
use Rattle.graph.specs.Hops.{count}
use Rattle.graph.specs.Answers.{most_hops}
use Rattle.graph.specs.declared.Shape.{Shape}
use Rattle.file_numbers.specs.Internal.Numbers.{most_number}
use Rattle.file_encode.specs.Encode.{encode}

-- what writing a file requires: its numbers are 16-bit, and the output is long enough
pub record Writable (sh : Shape) (hs ns : List ℕ) (capacity : ℕ) : Type 0 where
  pub states_fit : sh.states ≤ most_number
  pub labels_fit : sh.labels ≤ most_number
  pub initial_fits : sh.initial ≤ most_number
  pub hops_fit : count hs ≤ most_hops
  pub fits : length (encode sh hs ns) ≤ capacity
