pub mod Check  -- what is admitted as a graph, and the answers 0 to 4
pub mod Internal  -- what only private functions and proofs cite
