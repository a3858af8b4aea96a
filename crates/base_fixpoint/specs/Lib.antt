pub mod Pairs  -- sets of pairs of states
pub mod Approximants  -- what a number of rounds leaves of a set
pub mod Internal  -- what only private functions and proofs cite
