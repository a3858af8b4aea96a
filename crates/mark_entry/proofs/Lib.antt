pub mod Entry  -- the answer of `mark` row by row, and what its acceptance implies
