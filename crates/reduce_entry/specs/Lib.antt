pub mod Reduce  -- what `reduce` returns and leaves
pub mod Internal  -- what only private functions and proofs cite
