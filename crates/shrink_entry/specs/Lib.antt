pub mod Shrink  -- what `shrink` returns and leaves
pub mod Internal  -- what only private functions and proofs cite
