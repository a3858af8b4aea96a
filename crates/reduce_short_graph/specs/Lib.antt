pub mod Short  -- the short graph and the map as a list, along any set of silent hops
pub mod Internal  -- what only private functions and proofs cite
