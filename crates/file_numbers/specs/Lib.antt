pub mod Numbers  -- a 16-bit number among bytes
pub mod Internal  -- what only private functions and proofs cite
