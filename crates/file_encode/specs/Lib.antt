pub mod Encode  -- the file of a graph, as it is written
pub mod Internal  -- what only private functions and proofs cite
