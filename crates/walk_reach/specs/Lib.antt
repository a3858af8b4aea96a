pub mod Reach  -- what a state leads to along a chosen set of hops
pub mod Internal  -- what only private functions and proofs cite
