pub mod Report  -- what the program prints of a file
pub mod Internal  -- what only private functions and proofs cite
