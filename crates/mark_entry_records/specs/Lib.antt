pub mod Internal  -- what only private functions and proofs cite
