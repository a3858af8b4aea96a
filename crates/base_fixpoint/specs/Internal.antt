pub mod Approximants  -- what private functions and proofs cite beside it
pub mod Pairs  -- what private functions and proofs cite beside it
