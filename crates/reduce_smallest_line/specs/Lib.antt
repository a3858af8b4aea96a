pub mod Lines  -- the smaller of two source lines that is not 0, and the smallest of many
pub mod Internal  -- what only private functions and proofs cite
